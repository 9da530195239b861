-- What the first of some causes makes of an edit.
use Rattle.std.proofs.Common.{List, [], ◌∷◌, ◌++◌, ◌≡◌, refl, sym, ap, ◌∙◌, Option, Some, None}
use Rattle.std.specs.Option.{option_or}
use Rattle.site_commands.specs.Causes.{Decision, Refused, unless, decided}
use Rattle.site_commands.specs.declared.answer.Refusal.{Refusal}
use Rattle.edit_machine.specs.First.{first_cause}

decided_is : (causes : List (Option Refusal)) (decision : Decision) → decided causes decision ≡ unless (first_cause causes) decision
decided_is [] decision = refl
decided_is (None ∷ causes) decision = decided_is causes decision
decided_is (Some r ∷ causes) decision = refl

-- the first cause refuses
pub refused_first : (causes : List (Option Refusal)) (decision : Decision) (r : Refusal) → Some r ≡ first_cause causes → Refused r ≡ decided causes decision
refused_first causes decision r first = sym (decided_is causes decision ∙ ap (λ cause. unless cause decision) (sym first))

-- where none is there, it goes on
pub passed_first : (causes : List (Option Refusal)) (decision : Decision) → None ≡ first_cause causes → decision ≡ decided causes decision
passed_first causes decision none = sym (decided_is causes decision ∙ ap (λ cause. unless cause decision) (sym none))

-- the first cause of two lists, one after the other
pub first_append : (xs ys : List (Option Refusal)) → first_cause (xs ++ ys) ≡ option_or (first_cause xs) (first_cause ys)
first_append [] ys = refl
first_append (None ∷ xs) ys = first_append xs ys
first_append (Some r ∷ xs) ys = refl

-- the first cause of one and then two lists: where it stands in the first list, and where in neither
pub second_refuses : (cause : Option Refusal) (xs ys : List (Option Refusal)) (r : Refusal) → cause ≡ None → first_cause xs ≡ Some r → Some r ≡ first_cause (cause ∷ (xs ++ ys))
second_refuses cause xs ys r none found =
    sym (ap (λ c. option_or c (first_cause (xs ++ ys))) none ∙ first_append xs ys ∙ ap (λ c. option_or c (first_cause ys)) found)

pub third_decides : (cause : Option Refusal) (xs ys : List (Option Refusal)) → cause ≡ None → first_cause xs ≡ None → first_cause ys ≡ first_cause (cause ∷ (xs ++ ys))
third_decides cause xs ys none passed =
    sym (ap (λ c. option_or c (first_cause (xs ++ ys))) none ∙ first_append xs ys ∙ ap (λ c. option_or c (first_cause ys)) passed)

-- the first cause of two, where the first is not there
pub last_decides : (cause last : Option Refusal) → cause ≡ None → last ≡ first_cause (cause ∷ last ∷ [])
last_decides cause last none = sym (ap (λ c. option_or c (option_or last None)) none ∙ or_none last)
  where
    or_none : (o : Option Refusal) → option_or o None ≡ o
    or_none None = refl
    or_none (Some r) = refl
