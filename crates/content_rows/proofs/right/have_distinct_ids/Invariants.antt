use Rattle.std.proofs.Common.{◌↔◌, map, length}
use Rattle.std.specs.List.{IsDistinct}
use Rattle.std.specs.Str.{bytes_eq}
use Rattle.content_rows.proofs.right.have_distinct_ids.Given as goal

-- the ids that are left are distinct exactly where all are
abbrev pub invariant-left : goal.invariant-left
invariant-left l = IsDistinct bytes_eq (map (λ x. x.id) l.left) ↔ IsDistinct bytes_eq (map (λ x. x.id) l.links)

abbrev pub decreases-left : goal.decreases-left
decreases-left l = length l.left
