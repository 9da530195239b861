use Rattle.std.proofs.Common.{◌≡◌, ◌-◌}
use Rattle.content_rows.specs.MenuTree.{reaches_top}
use Rattle.content_rows.proofs.right.reaches_top.Given as goal

-- what is left of the walk decides as the whole walk does
abbrev pub invariant-steps : goal.invariant-steps
invariant-steps l = reaches_top (l.most - l._step) l.links l.at ≡ reaches_top l.most l.links l.link
