use Rattle.std.proofs.Common.{◌≡◌, ◌≤◌, ◌+◌, take}
use Rattle.drill_input.specs.Asked.{version_of}
use Rattle.drill_input.proofs.asked.version_of.Given as goal

abbrev pub invariant-edits : goal.invariant-edits
invariant-edits l = (l.version ≡ version_of (take l.other-index l.edited) l.node) × (l.version ≤ 1 + l.other-index)
