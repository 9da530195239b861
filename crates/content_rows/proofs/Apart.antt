-- One step of a loop that seeks two members of one name: the first that is left, against the others.
use Rattle.std.proofs.Common.{◌≡◌, ◌↔◌, ◌≤◌, ◌<◌, ◌-◌, ℕ, List, [], ◌∷◌, Bool, true, false, length, take, drop, get_or, map, refl, sym, subst, ap, ◌∙◌, arith}
use Rattle.std.specs.List.{list_any, AllByRecursion, IsDistinct}
use Rattle.std.specs.Str.{bytes_eq}
use Rattle.std.proofs.lemmas.Bool.{or_parts, both_ways}
use Rattle.std.proofs.lemmas.List.{take_all}
use Rattle.std.proofs.lemmas.Map.Keys.{IsDistinct-head, IsDistinct-tail, IsDistinct-cons}

-- whether a member has the name
abbrev pub has : {X : Type 0} → (X → List ℕ) → List ℕ → List X → Bool
has name own xs = list_any (λ y. bytes_eq own (name y)) xs

none_has : {X : Type 0} (name : X → List ℕ) (own : List ℕ) (xs : List X) → has name own xs ≡ false
    → AllByRecursion (λ z. bytes_eq own z ≡ false) (map name xs)
none_has name own [] h = tt
none_has name own (y ∷ ys) h =
    let both = or_parts (bytes_eq own (name y)) (has name own ys) h in (both.0, none_has name own ys both.1)

has_none : {X : Type 0} (name : X → List ℕ) (own : List ℕ) (xs : List X) → AllByRecursion (λ z. bytes_eq own z ≡ false) (map name xs)
    → has name own xs ≡ false
has_none name own [] h = refl
has_none name own (y ∷ ys) h = rw h.0 (has_none name own ys h.1)

others : {X : Type 0} (y : X) (ys : List X) → take (length (y ∷ ys) - 1) (drop 1 (y ∷ ys)) ≡ ys
others y ys = take_all (length (y ∷ ys) - 1) ys (omega arith)

abbrev Distinct : {X : Type 0} → (X → List ℕ) → List X → Type 0
Distinct name xs = IsDistinct bytes_eq (map name xs)

-- another has the name of the first
pub repeated : {X : Type 0} (name : X → List ℕ) (left : List X) (x : X) → 1 ≤ length left → x ≡ get_or left 0 x
    → has name (name x) (take (length left - 1) (drop 1 left)) ≡ true → Distinct name left → ⊥
repeated name [] x some is h d = absurd (omega arith)
repeated name (y ∷ ys) x some is h d =
    let found : has name (name y) ys ≡ true = ap (λ l. has name (name y) l) (sym (others y ys)) ∙ ap (λ z. has name (name z) (take (length (y ∷ ys) - 1) (drop 1 (y ∷ ys)))) (sym is) ∙ h in
    both_ways _ (has_none name (name y) ys (IsDistinct-head bytes_eq (name y) (map name ys) d)) found

-- no other has the name of the first
pub apart : {X : Type 0} (name : X → List ℕ) (left : List X) (x : X) → 1 ≤ length left → x ≡ get_or left 0 x
    → has name (name x) (take (length left - 1) (drop 1 left)) ≡ false
    → Distinct name (take (length left - 1) (drop 1 left)) ↔ Distinct name left
apart name [] x some is h = absurd (omega arith)
apart name (y ∷ ys) x some is h =
    let none : has name (name y) ys ≡ false = ap (λ l. has name (name y) l) (sym (others y ys)) ∙ ap (λ z. has name (name z) (take (length (y ∷ ys) - 1) (drop 1 (y ∷ ys)))) (sym is) ∙ h in (
      λ d. IsDistinct-cons bytes_eq (name y) (map name ys) (none_has name (name y) ys none) (subst (Distinct name) (others y ys) d),
      λ d. subst (Distinct name) (sym (others y ys)) (IsDistinct-tail bytes_eq (name y) (map name ys) d),
    )

-- none is left
pub none_left : {X : Type 0} (name : X → List ℕ) (left : List X) → length left < 1 → Distinct name left
unfolding IsDistinct
none_left name [] none = tt
none_left name (y ∷ ys) none = absurd (omega arith)
