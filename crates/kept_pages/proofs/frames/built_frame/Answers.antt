use Rattle.std.proofs.Common.{refl, subst}
use Rattle.std.specs.Arc.{arc_value}
use Rattle.std.specs.Option.{option_copied}
use Rattle.cache_entries.specs.declared.key.Subject.{Subject}
use Rattle.cache_entries.specs.declared.key.Subject.TheVariants as subject
use Rattle.cache_entries.specs.declared.kept.Bin.TheVariants as bin
use Rattle.element_entries.specs.Keys.{visit}
use Rattle.kept_pages.specs.Needed.{InFrame, met_in_frame}
use Rattle.kept_pages.specs.Held.{Closes}
use Rattle.kept_pages.proofs.Counting.{built_up, counts_frame}
use Rattle.kept_pages.proofs.Parts.{if_ok_three}
use Rattle.kept_pages.proofs.frames.built_frame.Goals as goal

pub returns-clause-told : goal.returns-clause-told
returns-clause-told g c =
    let v = visit c.args.reader.now in
    let path = c.args.reader.now.ask.path in
    let f = c.in_ok-filled.filled in
    if_ok_three c.keep_filled.result
    (λ child says same closes.
    built_up c.args.reader.now (met_in_frame path v) (InFrame path v) bin.Dynamic (subject.Page path) (option_copied c.args.told) f.joined.cacheability (arc_value child.entry) _ _ _ 1 f.built child.built refl
    (counts_frame (subject.Page path) (arc_value child.entry)) same says c.in_ok-filled.ensures.told
    (λ shelves told. subst (λ (s : Subject). Closes c.args.reader.now shelves bin.Dynamic s (option_copied c.args.told) (arc_value child.entry) (g.H.House.sees c.keep_filled.new.house)) c.requires.asked (closes shelves told)))
    c.keep_filled.ensures.says c.keep_filled.ensures.built c.keep_filled.ensures.told
