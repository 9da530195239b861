use Rattle.std.proofs.Common.{sym, ap, ◌∙◌, length}
use Rattle.content_state.specs.Chain.{Up, is_longer}
use Rattle.content_state.specs.Moves.{above_in, moved_by}
use Rattle.content_state.proofs.Chains.{longer_above, not_longer}
use Rattle.content_state.proofs.chain.goes_on.Goals as goal

pub returns-in-Some : goal.returns-in-Some
returns-in-Some c =
    let up : Up = moved_by c.args.made (above_in c.args.state.now.rows c.args.tree) in
    c.is_longer.ensures
    ∙ ap (λ n. is_longer up n c.in-Some.above) (c.len.ensures ∙ ap length c.rows.ensures)
    ∙ sym (longer_above up (length c.args.state.now.rows) c.args.start c.in-Some.above (sym c.parent.ensures ∙ c.in-Some.is))

pub returns-in-None : goal.returns-in-None
returns-in-None c =
    sym (not_longer (moved_by c.args.made (above_in c.args.state.now.rows c.args.tree)) (length c.args.state.now.rows) c.args.start (sym c.parent.ensures ∙ c.in-None.is))
