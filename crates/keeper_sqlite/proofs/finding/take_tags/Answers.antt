use Rattle.std.proofs.Common.{◌≡◌, ◌∷◌, ◌+◌, drop, ap, sym, ◌∙◌}
use Rattle.std.proofs.lemmas.List.{drop_more}
use Rattle.std.specs.List.{fold}
use Rattle.keeper_sqlite.proofs.Lines.{no_counts}
use Rattle.keeper_sqlite.proofs.finding.take_tags.Goals as goal
use Rattle.keeper_sqlite.specs.Found.{with_tag_line, with_tags}

pub returns-in-Err-clause-fault : goal.returns-in-Err-clause-fault
returns-in-Err-clause-fault c = λ failed.
    let rest = drop_more c.args.lines.now c.lines.line-index c.line-item.result c.lines-test.true ∙ ap (λ x. x ∷ drop (c.lines.line-index + 1) c.args.lines.now) (sym c.line-item.is) in
    sym c.lines.invariant ∙ ap (with_tags c.lines.counts) rest ∙ ap (λ o. fold with_tag_line o (drop (c.lines.line-index + 1) c.args.lines.now)) (c.in-Err.ensures.fault failed) ∙ no_counts (drop (c.lines.line-index + 1) c.args.lines.now)

pub lines-preserved : goal.lines-preserved
lines-preserved c =
    let rest = drop_more c.args.lines.now c.lines.line-index c.line-item.result c.lines-test.true ∙ ap (λ x. x ∷ drop (c.lines.line-index + 1) c.args.lines.now) (sym c.line-item.is) in
    sym (ap (λ o. fold with_tag_line o (drop (c.lines.line-index + 1) c.args.lines.now)) c.in-Ok.ensures.told) ∙ sym (ap (with_tags c.lines.counts) rest) ∙ c.lines.invariant
