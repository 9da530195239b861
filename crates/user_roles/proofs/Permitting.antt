-- A permission is held exactly where one of the roles permits it.
use Rattle.std.proofs.Common.{◌≡◌, ◌∙◌, ℕ, List, [], ◌∷◌, Bool, true, false, ◌||◌, ◌==◌, map, refl, ap, sym, if◌then◌else◌}
use Rattle.std.specs.List.{list_any, flat_map, fold}
use Rattle.std.specs.Ordering.{match_ordering, nat_cmp}
use Rattle.std.specs.declared.cmp.Ordering.{Ordering}
use Rattle.std.specs.declared.cmp.Ordering.TheVariants.{Less, Equal, Greater}
use Rattle.std.specs.Cmp.Lexicographic.{slice_cmp}
use Rattle.std.specs.BTreeSet.{insert_key}
use Rattle.std.specs.Str.{bytes_eq}
use Rattle.std.proofs.lemmas.List.Folds.{list_any-append}
use Rattle.std.proofs.lemmas.Map.Lookups.{exact_bytes}
use Rattle.content_rows.specs.declared.row.Role.{Role}
use Rattle.content_rows.specs.declared.permission.Permissions.TheVariants as permissions
use Rattle.content_rows.specs.Permission.{permissions_of, has, text_set}
use Rattle.user_roles.specs.Permitted.{permits, is_permitted}

or_swap : (a b c : Bool) → (a || (b || c)) ≡ (b || (a || c))
or_swap true true c = refl
or_swap true false c = refl
or_swap false true c = refl
or_swap false false c = refl

or_twice : (a b : Bool) → (a || b) ≡ (a || (a || b))
or_twice true b = refl
or_twice false b = refl

or_assoc : (a b c : Bool) → ((a || b) || c) ≡ (a || (b || c))
or_assoc true b c = refl
or_assoc false b c = refl

-- ---- a set made of a list passes a test where the list does

step : {K : Type 0} (p : K → Bool) (k x : K) (xs ys : List K) (o : Ordering) → (o ≡ Equal → k ≡ x)
    → list_any p ys ≡ (p k || list_any p xs)
    → list_any p (match_ordering o (k ∷ x ∷ xs) (x ∷ xs) (x ∷ ys)) ≡ (p k || list_any p (x ∷ xs))
step p k x xs ys Less same more = refl
step p k x xs ys Equal same more = or_twice (p x) (list_any p xs) ∙ ap (λ y. p y || (p x || list_any p xs)) (sym (same refl))
step p k x xs ys Greater same more = ap (λ b. p x || b) more ∙ or_swap (p x) (p k) (list_any p xs)

any-insert_key : {K : Type 0} (cmp : K → K → Ordering) → ((x y : K) → cmp x y ≡ Equal → x ≡ y) → (p : K → Bool) (ks : List K) (k : K)
    → list_any p (insert_key cmp ks k) ≡ (p k || list_any p ks)
any-insert_key cmp exact p [] k = refl
any-insert_key cmp exact p (x ∷ xs) k =
    step p k x xs (insert_key cmp xs k) (cmp k x) (exact k x) (any-insert_key cmp exact p xs k)

any-fold : {K : Type 0} (cmp : K → K → Ordering) → ((x y : K) → cmp x y ≡ Equal → x ≡ y) → (p : K → Bool) (ks xs : List K)
    → list_any p (fold (insert_key cmp) ks xs) ≡ (list_any p xs || list_any p ks)
any-fold cmp exact p ks [] = refl
any-fold cmp exact p ks (x ∷ xs) =
    any-fold cmp exact p (insert_key cmp ks x) xs
    ∙ ap (λ b. list_any p xs || b) (any-insert_key cmp exact p ks x)
    ∙ or_swap (list_any p xs) (p x) (list_any p ks)
    ∙ sym (or_assoc (p x) (list_any p xs) (list_any p ks))

or_false : (a : Bool) → (a || false) ≡ a
or_false true = refl
or_false false = refl

pub any-text_set : (p : List ℕ → Bool) (texts : List (List ℕ)) → list_any p (text_set texts) ≡ list_any p texts
any-text_set p texts = any-fold (slice_cmp nat_cmp) exact_bytes p [] texts ∙ or_false (list_any p texts)

-- ---- a role at a time

any-roles : (permission : List ℕ) (roles : List Role)
    → (list_any (λ r. r.admin) roles || list_any (λ p. bytes_eq p permission) (flat_map (λ r. r.permissions) roles)) ≡ list_any (permits permission) roles
any-roles permission [] = refl
any-roles permission (r ∷ rs) =
    let test = λ (p : List ℕ). bytes_eq p permission in
    let admins = list_any (λ (r : Role). r.admin) rs in
    let here = list_any test r.permissions in
    let there = list_any test (flat_map (λ (r : Role). r.permissions) rs) in
    ap (λ b. (r.admin || admins) || b) (list_any-append test r.permissions (flat_map (λ (r : Role). r.permissions) rs))
    ∙ or_assoc r.admin admins (here || there)
    ∙ ap (λ b. r.admin || b) (or_swap admins here there)
    ∙ sym (or_assoc r.admin here (admins || there))
    ∙ ap (λ b. permits permission r || b) (any-roles permission rs)

given : (one admin : Bool) (texts : List (List ℕ)) (permission : List ℕ) (listed : Bool) → list_any (λ p. bytes_eq p permission) texts ≡ listed
    → has (if one || admin then permissions.All else permissions.These texts) permission ≡ (one || (admin || listed))
given true admin texts permission listed e = refl
given false true texts permission listed e = refl
given false false texts permission listed e = e

pub held_where_permitted : (uid : ℕ) (roles : List Role) (permission : List ℕ)
    → has (permissions_of uid roles) permission ≡ is_permitted uid roles permission
held_where_permitted uid roles permission =
    let listed = flat_map (λ (r : Role). r.permissions) roles in
    let test = λ (p : List ℕ). bytes_eq p permission in
    given (uid == 1) (list_any (λ (r : Role). r.admin) roles) (text_set listed) permission (list_any test listed) (any-text_set test listed)
    ∙ ap (λ b. (uid == 1) || b) (any-roles permission roles)

-- ---- roles behind references

pub list_any-map : {A B : Type 0} (p : B → Bool) (f : A → B) (xs : List A) → list_any (λ x. p (f x)) xs ≡ list_any p (map f xs)
list_any-map p f [] = refl
list_any-map p f (x ∷ xs) = ap (λ b. p (f x) || b) (list_any-map p f xs)
