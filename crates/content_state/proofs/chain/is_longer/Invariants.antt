use Rattle.std.proofs.Common.{◌≡◌, ◌+◌, ◌-◌, suc, length}
use Rattle.content_state.specs.Chain.{chain}
use Rattle.content_state.specs.Moves.{above_in, moved_by}
use Rattle.content_state.proofs.chain.is_longer.Given as goal

-- as many as were gone past, and those that are left
abbrev pub invariant-steps : goal.invariant-steps
invariant-steps l = length (chain (moved_by l.made (above_in l.state.rows l.tree)) (suc l.most) l.start) ≡ l._step + length (chain (moved_by l.made (above_in l.state.rows l.tree)) (suc l.most - l._step) l.at)
