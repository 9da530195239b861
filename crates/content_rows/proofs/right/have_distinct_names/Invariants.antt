use Rattle.std.proofs.Common.{◌↔◌, map, length}
use Rattle.std.specs.List.{IsDistinct}
use Rattle.std.specs.Str.{bytes_eq}
use Rattle.content_rows.proofs.right.have_distinct_names.Given as goal

-- the names that are left are distinct exactly where all are
abbrev pub invariant-left : goal.invariant-left
invariant-left l = IsDistinct bytes_eq (map (λ f. f.name) l.left) ↔ IsDistinct bytes_eq (map (λ f. f.name) l.fields)

abbrev pub decreases-left : goal.decreases-left
decreases-left l = length l.left
