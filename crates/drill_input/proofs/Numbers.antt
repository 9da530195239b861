-- A number is read back from its decimal text, and from no other.
use Rattle.std.proofs.Common.{ℕ, List, ◌≡◌, ◌<◌, Bool, true, false, refl, sym, ◌∙◌, ap, subst, Result, Ok, Some, None}
use Rattle.std.specs.Prelude.{◌&&◌, nat_lt, if◌then◌else◌}
use Rattle.std.specs.Bool.{Decides}
use Rattle.std.specs.Fmt.{decimal}
use Rattle.std.specs.Str.{bytes_eq}
use Rattle.std.specs.Str.Parse.{digits_value, ParsesUnsigned}
use Rattle.std.proofs.lemmas.Bool.{ltb-true, lt-ltb}
use Rattle.std.proofs.lemmas.Bool.Decides.{Decides-and}
use Rattle.std.proofs.lemmas.Fmt.{decimal_is_IsNumeral, parse-decimal}
use Rattle.std.proofs.lemmas.Slice.Eq.{bytes_eq-Decides}
use Rattle.drill_input.specs.Number.{number_of}

abbrev is_text : List ℕ → ℕ → Bool
is_text text n = bytes_eq text (decimal n) && nat_lt n 18446744073709551616

decided : (text : List ℕ) (n : ℕ) → Decides (is_text text n) ((text ≡ decimal n) × (n < 18446744073709551616))
decided text n = Decides-and _ _ (bytes_eq-Decides text (decimal n)) (ltb-true n 18446744073709551616, lt-ltb n 18446744073709551616)

pub number_some : (text : List ℕ) (n : ℕ) → text ≡ decimal n → n < 18446744073709551616 → number_of text ≡ Some n
number_some text n is small =
    let value : digits_value 10 text ≡ n = ap (digits_value 10) is ∙ (decimal_is_IsNumeral n small).1 in
    let test : is_text text n ≡ true = (decided text n).1 (is, small) in
    subst (λ (v : ℕ). (if is_text text v then Some v else None) ≡ Some n) (sym value)
    (subst (λ (b : Bool). (if b then Some n else None) ≡ Some n) (sym test) refl)

pub number_none : (text : List ℕ) → ((n : ℕ) → text ≡ decimal n → n < 18446744073709551616 → ⊥) → number_of text ≡ None
number_none text none =
    let n = digits_value 10 text in
    elim (is_text text n) as (λ b. is_text text n ≡ b → (if b then Some n else None) ≡ None) [
      | true ↦ λ e. let is = (decided text n).0 e in absurd (none n is.0 is.1)
      | false ↦ λ e. refl
    ] refl

-- what isn't parsed is the text of no number
pub not_parsed : {E : Type 0} (text : List ℕ) (r : Result ℕ E) → ParsesUnsigned 64 10 text r → ((n : ℕ) → r ≡ Ok n → ⊥) → number_of text ≡ None
not_parsed text r parses bad = number_none text (λ n is small. bad n (parse-decimal 64 n text r small small is parses))

-- what is parsed as a number is the text of no other one
pub other_text : {E : Type 0} (text : List ℕ) (n : ℕ) (r : Result ℕ E) → ParsesUnsigned 64 10 text r → r ≡ Ok n → (text ≡ decimal n → ⊥) → number_of text ≡ None
other_text text n r parses is other =
    number_none text (λ m text_is small.
    let same : Ok m ≡ r = sym (parse-decimal 64 m text r small small text_is parses) in
    let both : m ≡ n = cc in
    other (text_is ∙ ap decimal both))
