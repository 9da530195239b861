-- What counting tags does to the counts.
use Rattle.std.proofs.Common.{ℕ, zero, suc, List, [], ◌∷◌, ◌≡◌, ◌≢◌, ◌≤◌, ◌<◌, ◌+◌, ◌==◌, ◌⊎◌, refl, sym, ◌∙◌, ap, subst, arith, inl, inr, Bool, true, false, cond, Option, Some, None, unwrap_or, take, get_or, length, fold, Contains}
use Rattle.std.specs.List.{AllByRecursion}
use Rattle.std.specs.List.Sorted.{IsStrictlySortedBy}
use Rattle.std.specs.declared.cmp.Ordering.TheVariants.{Less}
use Rattle.cacheability.specs.declared.tag.Tag.{Tag}
use Rattle.cacheability.specs.Tag.{tag_cmp}
use Rattle.cacheability.specs.contracts.tag.TagOrd.TheImpl.Laws as tag_laws
use Rattle.tag_counts.specs.Counts.{count_of, bumped, IsInOrder}
use Rattle.tag_counts.proofs.Tags.{tag_cmp_exact}
use Rattle.state_commits.specs.Apply.{first_full}
use Rattle.state_commits.proofs.Entries.{same_or_not, below_apart, found_put_same, found_put_other, ordered_put}

pub tag_or_not : (g h : Tag) → (g ≡ h) ⊎ (g ≢ h)
tag_or_not g h = same_or_not tag_cmp tag_laws.total-law tag_cmp_exact g h

-- one tag
count_same : (counts : List (Tag × ℕ)) (g : Tag) → count_of (bumped counts g) g ≡ count_of counts g + 1
count_same counts g = ap (λ o. unwrap_or o 0) (found_put_same tag_cmp tag_laws.total-law tag_cmp_exact counts g (count_of counts g + 1))

count_other : (counts : List (Tag × ℕ)) (g h : Tag) → h ≢ g → count_of (bumped counts g) h ≡ count_of counts h
count_other counts g h apart = ap (λ o. unwrap_or o 0) (found_put_other tag_cmp tag_laws.total-law tag_cmp_exact counts g (count_of counts g + 1) h apart)

one_up : (counts : List (Tag × ℕ)) (g h : Tag) → count_of counts h ≤ count_of (bumped counts g) h
one_up counts g h = elim (tag_or_not h g) [
  | inl same ↦ subst (λ x. count_of counts x ≤ count_of (bumped counts g) x) (sym same) (omega (arith, count_same counts g))
  | inr apart ↦ omega (arith, count_other counts g h apart)
]

-- a list of tags: no count falls, and that of each of them rises
pub all_up : (tags : List Tag) (counts : List (Tag × ℕ)) (h : Tag) → count_of counts h ≤ count_of (fold bumped counts tags) h
all_up [] counts h = omega arith
all_up (g ∷ tags) counts h =
    let one = one_up counts g h in
    let rest = all_up tags (bumped counts g) h in
    omega arith

pub named_up : (tags : List Tag) (counts : List (Tag × ℕ)) (h : Tag) → Contains tags h → count_of counts h < count_of (fold bumped counts tags) h
named_up [] counts h held = absurd (let l = held.1 in omega arith)
named_up (g ∷ tags) counts h (zero, l, is) =
    subst (λ x. count_of counts x < count_of (fold bumped (bumped counts g) tags) x) is
    (let rest = all_up tags (bumped counts g) g in omega (arith, count_same counts g))
named_up (g ∷ tags) counts h (suc k, l, is) =
    let one = one_up counts g h in
    let rest = named_up tags (bumped counts g) h (k, omega arith, is) in
    omega arith

-- the tags stay in order
pub counts_ordered : (tags : List Tag) (counts : List (Tag × ℕ)) → IsInOrder counts → IsInOrder (fold bumped counts tags)
counts_ordered [] counts sorted = sorted
counts_ordered (g ∷ tags) counts sorted =
    counts_ordered tags (bumped counts g) (ordered_put tag_cmp tag_laws.total-law tag_cmp_exact counts g (count_of counts g + 1) sorted)

-- where none of some tags in order is full, none is when its turn comes
first_full_later : (counts : List (Tag × ℕ)) (g : Tag) (tags : List Tag) → AllByRecursion (λ h. tag_cmp g h ≡ Less) tags → first_full (bumped counts g) tags ≡ first_full counts tags
first_full_later counts g [] above = refl
first_full_later counts g (h ∷ tags) above =
    ap (λ n. cond (n == 18_446_744_073_709_551_615) (Some h) (first_full (bumped counts g) tags)) (count_other counts g h (below_apart tag_cmp tag_laws.total-law tag_cmp_exact g h above.0))
    ∙ ap (cond (count_of counts h == 18_446_744_073_709_551_615) (Some h)) (first_full_later counts g tags above.1)

head_room : (n : ℕ) (g : Tag) (rest : Option Tag) → cond (n == 18_446_744_073_709_551_615) (Some g) rest ≡ None → n ≢ 18_446_744_073_709_551_615
head_room n g rest none full =
    let is : cond (18_446_744_073_709_551_615 == 18_446_744_073_709_551_615) (Some g) rest ≡ None = sym (ap (λ m. cond (m == 18_446_744_073_709_551_615) (Some g) rest) full) ∙ none in
    let some : Some g ≡ None = is in
    cc

tail_none : (b : Bool) (g : Tag) (rest : Option Tag) → cond b (Some g) rest ≡ None → rest ≡ None
tail_none true g rest none = cc
tail_none false g rest none = none

pub room_in_turn : (tags : List Tag) (counts : List (Tag × ℕ)) (i : ℕ) (d : Tag) → IsStrictlySortedBy tag_cmp tags → first_full counts tags ≡ None → i < length tags → count_of (fold bumped counts (take i tags)) (get_or tags i d) ≢ 18_446_744_073_709_551_615
unfolding IsStrictlySortedBy
room_in_turn [] counts i d sorted none l = absurd (omega arith)
room_in_turn (g ∷ tags) counts zero d sorted none l = head_room (count_of counts g) g (first_full counts tags) none
room_in_turn (g ∷ tags) counts (suc i) d sorted none l =
    room_in_turn tags (bumped counts g) i d sorted.1
    (first_full_later counts g tags sorted.0 ∙ tail_none (count_of counts g == 18_446_744_073_709_551_615) g (first_full counts tags) none)
    (omega arith)

-- the same, of the counts and the tag of a turn
pub room_for : (tags : List Tag) (counts running : List (Tag × ℕ)) (i : ℕ) (g : Tag) → IsStrictlySortedBy tag_cmp tags → first_full counts tags ≡ None → i < length tags → running ≡ fold bumped counts (take i tags) → g ≡ get_or tags i g → count_of running g ≢ 18_446_744_073_709_551_615
room_for tags counts running i g sorted none l is at full =
    room_in_turn tags counts i g sorted none l
    (ap (count_of (fold bumped counts (take i tags))) (sym at) ∙ ap (λ cs. count_of cs g) (sym is) ∙ full)
