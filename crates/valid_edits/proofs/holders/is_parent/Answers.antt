use Rattle.std.proofs.Common.{◌≡◌, ◌∙◌, inl, inr, List, [], ◌∷◌, true, false, refl, sym, ap}
use Rattle.std.specs.Prelude.{Bool, ℕ, Option, Some, None, ◌||◌, cond, map, is_some, MatchOption}
use Rattle.std.specs.List.{filter, list_any}
use Rattle.std.proofs.lemmas.Bool.{cases_Bool}
use denote.Ref.{Bor}
use Rattle.content_rows.specs.declared.row.Term.{Term}
use Rattle.indexed_rows.specs.Rows.{terms_of}
use Rattle.valid_edits.specs.Holders.{is_child_of}
use Rattle.valid_edits.proofs.holders.is_parent.Goals as goal

abbrev is_full : {X : Type 0} → List X → Bool
is_full [] = false
is_full (x ∷ xs) = true

-- some of a list pass where some are left of it
some_left : {X Y : Type 0} (p : X → Bool) (f : X → Y) (xs : List X) → list_any p xs ≡ is_full (map f (filter p xs))
some_left p f [] = refl
some_left p f (x ∷ xs) = elim (cases_Bool (p x)) as (λ _. list_any p (x ∷ xs) ≡ is_full (map f (filter p (x ∷ xs)))) [
  | inl passes ↦
      ap (λ b. b || list_any p xs) passes ∙ sym (ap (λ b. is_full (map f (cond b (x ∷ filter p xs) (filter p xs)))) passes)
  | inr fails ↦
      ap (λ b. b || list_any p xs) fails ∙ some_left p f xs ∙ sym (ap (λ b. is_full (map f (cond b (x ∷ filter p xs) (filter p xs)))) fails)
]

first_is : {Y : Type 0} (ys rest : List Y) (first : Option (Bor Y)) → MatchOption first ((ys ≡ []) × (rest ≡ [])) (λ y. ys ≡ y.now ∷ rest) → is_some first ≡ is_full ys
first_is ys rest None told = sym (ap is_full told.0)
first_is ys rest (Some y) told = sym (ap is_full told)

pub returns : goal.returns
returns c =
    c.is_some.ensures
    ∙ first_is _ _ _ c.next.ensures.steps
    ∙ ap is_full c.children.ensures
    ∙ sym (some_left (λ (e : ℕ × Term). is_child_of c.args.term e.1) _ (terms_of c.args.state.now.rows))
