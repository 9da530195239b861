use Rattle.std.proofs.Common.{◌≡◌, ◌-◌}
use Rattle.content_state.specs.Moves.{above_in}
use Rattle.content_state.specs.Chain.{is_within}
use Rattle.content_state.proofs.chain.is_within.Given as goal

-- what is left of the walk decides as the whole walk does
abbrev pub invariant-steps : goal.invariant-steps
invariant-steps l = is_within (above_in l.state.rows l.tree) l.most l.top l.start ≡ is_within (above_in l.state.rows l.tree) (l.most - l._step) l.top l.at
