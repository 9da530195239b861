-- Where none of some tags has the greatest count, one more than each count is a u64.
use Rattle.std.proofs.Common.{◌≡◌, ◌≢◌, ◌∙◌, ◌<◌, ◌==◌, suc, zero, ℕ, Bool, true, false, cond, List, [], ◌∷◌, Option, Some, None, length, get_or, ap, sym, arith}
use Rattle.cacheability.specs.declared.tag.Tag.{Tag}
use Rattle.tag_counts.specs.Counts.{count_of}
use Rattle.state_commits.specs.Apply.{first_full}

head_room : (n : ℕ) (tag : Tag) (rest : Option Tag) → cond (n == 18_446_744_073_709_551_615) (Some tag) rest ≡ None → n ≢ 18_446_744_073_709_551_615
head_room n tag rest none full =
    let is : cond (18_446_744_073_709_551_615 == 18_446_744_073_709_551_615) (Some tag) rest ≡ None = sym (ap (λ m. cond (m == 18_446_744_073_709_551_615) (Some tag) rest) full) ∙ none in
    let some : Some tag ≡ None = is in
    cc

tail_none : (b : Bool) (tag : Tag) (rest : Option Tag) → cond b (Some tag) rest ≡ None → rest ≡ None
tail_none true tag rest none = cc
tail_none false tag rest none = none

pub has_room : (counts : List (Tag × ℕ)) (tags : List Tag) (i : ℕ) (tag : Tag) → first_full counts tags ≡ None → i < length tags → tag ≡ get_or tags i tag
    → count_of counts tag ≢ 18_446_744_073_709_551_615
has_room counts [] i tag none within is = absurd (omega arith)
has_room counts (t ∷ tags) zero tag none within is =
    λ full. head_room (count_of counts t) t (first_full counts tags) none (ap (count_of counts) (sym is) ∙ full)
has_room counts (t ∷ tags) (suc i) tag none within is =
    has_room counts tags i tag
    (tail_none (count_of counts t == 18_446_744_073_709_551_615) t (first_full counts tags) none)
    (omega arith) is
