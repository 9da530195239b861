-- A set of a list that stands in order already is that list.
use Rattle.std.proofs.Common.{List, [], ◌∷◌, ◌≡◌, ◌≤◌, ◌<◌, ◌∙◌, length, get_or, map, refl, sym, ap, arith, Bor}
use Rattle.std.specs.declared.cmp.Ordering.{Ordering}
use Rattle.std.specs.declared.cmp.Ordering.TheVariants.{Less}
use Rattle.std.specs.Ordering.{match_ordering, ordering_reverse, nat_cmp}
use Rattle.std.specs.Cmp.{IsTotalOrder}
use Rattle.std.specs.Cmp.Lexicographic.{slice_cmp, nat_list_cmp_total}
use Rattle.std.specs.List.{AllByRecursion, flat_map, fold}
use Rattle.std.specs.List.Sorted.{IsStrictlySortedBy}
use Rattle.std.specs.BTreeSet.{insert_key}
use Rattle.std.proofs.lemmas.List.{append-nil}
use Rattle.content_rows.specs.declared.row.Role.{Role}
use Rattle.content_rows.specs.Permission.{text_set}

-- a key before all that are put in stays the first
first_stays : {K : Type 0} {cmp : K → K → Ordering} → IsTotalOrder cmp → (x : K) (xs ys : List K) → AllByRecursion (λ y. cmp x y ≡ Less) ys
    → fold (insert_key cmp) (x ∷ xs) ys ≡ x ∷ fold (insert_key cmp) xs ys
first_stays o x xs [] h = refl
first_stays {cmp = cmp} o x xs (y ∷ ys) h =
    ap (λ r. fold (insert_key cmp) (match_ordering r (y ∷ x ∷ xs) (x ∷ xs) (x ∷ insert_key cmp xs y)) ys) (o.antisymm y x ∙ ap ordering_reverse h.0)
    ∙ first_stays o x (insert_key cmp xs y) ys h.1

set-sorted : {K : Type 0} {cmp : K → K → Ordering} → IsTotalOrder cmp → (xs : List K) → IsStrictlySortedBy cmp xs → fold (insert_key cmp) [] xs ≡ xs
unfolding IsStrictlySortedBy
set-sorted o [] h = refl
set-sorted o (x ∷ xs) h = first_stays o x [] xs h.0 ∙ ap (λ l. x ∷ l) (set-sorted o xs h.1)

-- what one role permits whose permissions stand in order
pub of_one : (role : Role) → IsStrictlySortedBy (slice_cmp nat_cmp) role.permissions
    → role.permissions ≡ text_set (flat_map (λ (r : Role). r.permissions) (role ∷ []))
of_one role h =
    sym (ap text_set (append-nil role.permissions) ∙ set-sorted nat_list_cmp_total role.permissions h)

-- the same of a list of one role
pub of_only : (roles : List (Bor Role)) (role : Bor Role) → role ≡ get_or roles 0 role → 1 ≤ length roles → length roles < 2
    → IsStrictlySortedBy (slice_cmp nat_cmp) role.now.permissions → role.now.permissions ≡ text_set (flat_map (λ (r : Role). r.permissions) (map (λ r. r.now) roles))
of_only [] role is some short h = absurd (omega arith)
of_only (r ∷ []) role is some short h = of_one role.now h ∙ ap (λ (x : Bor Role). text_set (flat_map (λ (y : Role). y.permissions) (x.now ∷ []))) is
of_only (r ∷ s ∷ rest) role is some short h = absurd (omega arith)
