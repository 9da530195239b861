-- A number is read of its text in decimal, and of no other.
use Rattle.std.proofs.Common.{ℕ, List, ◌≡◌, ◌≤◌, ◌<◌, ◌^◌, Bool, true, false, refl, sym, ◌∙◌, ap, subst, arith}
use Rattle.std.specs.Prelude.{Some, None, ◌&&◌, nat_le, if◌then◌else◌}
use Rattle.std.specs.Bool.{Decides}
use Rattle.std.specs.Fmt.{decimal}
use Rattle.std.specs.Str.{bytes_eq, IsUtf8}
use Rattle.std.specs.Str.Parse.{digits_value}
use Rattle.std.proofs.lemmas.Bool.{le-leb, leb-true}
use Rattle.std.proofs.lemmas.Bool.Decides.{Decides-and}
use Rattle.std.proofs.lemmas.Fmt.{decimal_is_IsNumeral, IsAscii-decimal}
use Rattle.std.proofs.lemmas.Slice.Eq.{bytes_eq-Decides}
use Rattle.std.proofs.lemmas.Str.{IsUtf8-from_ascii}
use Rattle.keeper_sqlite.specs.Numbers.{head_in}

abbrev is_head_text : List ℕ → ℕ → Bool
is_head_text text n = bytes_eq text (decimal n) && nat_le n 18446744073709551615

decided : (text : List ℕ) (n : ℕ) → Decides (is_head_text text n) ((text ≡ decimal n) × (n ≤ 18446744073709551615))
decided text n = Decides-and _ _ (bytes_eq-Decides text (decimal n)) (leb-true n 18446744073709551615, le-leb n 18446744073709551615)

pub head_some : (text : List ℕ) (n : ℕ) → text ≡ decimal n → n < 2 ^ 64 → head_in text ≡ Some n
head_some text n is small =
    let value : digits_value 10 text ≡ n = ap (digits_value 10) is ∙ (decimal_is_IsNumeral n small).1 in
    let test : is_head_text text n ≡ true = (decided text n).1 (is, omega arith) in
    subst (λ (v : ℕ). (if is_head_text text v then Some v else None) ≡ Some n) (sym value)
    (subst (λ (b : Bool). (if b then Some n else None) ≡ Some n) (sym test) refl)

pub head_none : (text : List ℕ) → ((n : ℕ) → text ≡ decimal n → n < 2 ^ 64 → ⊥) → None ≡ head_in text
head_none text none =
    let n = digits_value 10 text in
    elim (is_head_text text n) as (λ b. is_head_text text n ≡ b → None ≡ (if b then Some n else None)) [
      | true ↦ λ e. let is = (decided text n).0 e in absurd (none n is.0 (omega (arith, is.1)))
      | false ↦ λ e. refl
    ] refl

pub head_is_utf8 : (text : List ℕ) (n : ℕ) → text ≡ decimal n → n < 2 ^ 64 → IsUtf8 text
head_is_utf8 text n is small = subst IsUtf8 (sym is) (IsUtf8-from_ascii (decimal n) (IsAscii-decimal n small))
