use Rattle.std.proofs.Common.{◌≡◌, ◌++◌, ◌-◌}
use Rattle.content_state.specs.Context.{upward}
use Rattle.site_lists.proofs.trail.upward.Given as goal

-- with those that are left, all are there
abbrev pub invariant-heights : goal.invariant-heights
invariant-heights l = l.ids.items ++ upward (9 - l.counter) l.links l.next ≡ upward 9 l.links l.fn.from
