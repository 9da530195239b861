-- An id is read back from its decimal text, and from no other.
use Rattle.std.proofs.Common.{ℕ, List, [], ◌∷◌, ◌≡◌, ◌≤◌, ◌<◌, ◌^◌, Bool, true, false, refl, sym, ◌∙◌, ap, subst, arith, get_or}
use Rattle.std.specs.Prelude.{Some, None, Result, Ok, ◌&&◌, nat_le, if◌then◌else◌}
use Rattle.std.specs.Bool.{Decides}
use Rattle.std.specs.List.{slice_get}
use Rattle.std.specs.Fmt.{decimal}
use Rattle.std.specs.Str.{bytes_eq, IsUtf8}
use Rattle.std.specs.Str.Parse.{digits_value, AllDigits, IsNumeral, ParsesUnsigned, without_leading_plus}
use Rattle.std.proofs.lemmas.Bool.{leb-true, le-leb}
use Rattle.std.proofs.lemmas.Bool.Decides.{Decides-and}
use Rattle.std.proofs.lemmas.Fmt.{decimal_is_IsNumeral, parse-decimal, IsAscii-decimal, first_decimal, decimal-digits_value}
use Rattle.std.proofs.lemmas.Slice.Eq.{bytes_eq-Decides}
use Rattle.std.proofs.lemmas.Str.{IsUtf8-from_ascii}
use Rattle.std.proofs.lemmas.Str.Parse.{IsNumeralModel}
use Rattle.content_rows.specs.IdText.{id_of}

-- the text is a number in decimal, and that is an id
pub record IsIdText (text : List ℕ) (n : ℕ) : Type 0 where
  pub text_is : text ≡ decimal n
  pub low : 1 ≤ n
  pub high : n ≤ 4294967294

abbrev is_id_text : List ℕ → ℕ → Bool
is_id_text text n = bytes_eq text (decimal n) && nat_le 1 n && nat_le n 4294967294

decided : (text : List ℕ) (n : ℕ) → Decides (is_id_text text n) (((text ≡ decimal n) × (1 ≤ n)) × (n ≤ 4294967294))
decided text n =
    Decides-and _ _
    (Decides-and _ _ (bytes_eq-Decides text (decimal n)) (leb-true 1 n, le-leb 1 n))
    (leb-true n 4294967294, le-leb n 4294967294)

pub id_some : (text : List ℕ) (n : ℕ) → IsIdText text n → id_of text ≡ Some n
id_some text n is =
    let small : n < 2 ^ 64 = omega arith in
    let value : digits_value 10 text ≡ n = ap (digits_value 10) is.text_is ∙ (decimal_is_IsNumeral n small).1 in
    let test : is_id_text text n ≡ true = (decided text n).1 ((is.text_is, is.low), is.high) in
    subst (λ (v : ℕ). (if is_id_text text v then Some v else None) ≡ Some n) (sym value)
    (subst (λ (b : Bool). (if b then Some n else None) ≡ Some n) (sym test) refl)

pub id_none : (text : List ℕ) → ((n : ℕ) → IsIdText text n → ⊥) → id_of text ≡ None
id_none text none =
    let n = digits_value 10 text in
    elim (is_id_text text n) as (λ b. is_id_text text n ≡ b → (if b then Some n else None) ≡ None) [
      | true ↦ λ e. let is = (decided text n).0 e in absurd (none n (record { text_is = is.0.0; low = is.0.1; high = is.1 }))
      | false ↦ λ e. refl
    ] refl

-- the text of an id is UTF-8, begins with a digit that isn't 0, and is parsed as that id
pub id_is_utf8 : (text : List ℕ) (n : ℕ) → IsIdText text n → IsUtf8 text
id_is_utf8 text n is = subst IsUtf8 (sym is.text_is) (IsUtf8-from_ascii (decimal n) (IsAscii-decimal n (omega arith)))

pub id_begins : (text : List ℕ) (n : ℕ) → IsIdText text n → 48 < get_or text 0 0
id_begins text n is = subst (λ (t : List ℕ). 48 < get_or t 0 0) (sym is.text_is) (first_decimal n (omega arith) (omega arith))

pub id_parses : {E : Type 0} (text : List ℕ) (n : ℕ) (r : Result ℕ E) → IsIdText text n → ParsesUnsigned 32 10 text r → r ≡ Ok n
id_parses text n r is parses = parse-decimal 32 n text r (omega arith) (omega arith) is.text_is parses

digits_model : IsNumeralModel (AllDigits 10) (digits_value 10)
digits_model = record { to = λ ds h. h; from = λ ds h. h; same = λ ds h. refl }

no_plus : (text : List ℕ) → 48 < get_or text 0 0 → without_leading_plus text ≡ text
no_plus text above = grind arith

abbrev IsParsed : List ℕ → ℕ → Type 0
IsParsed digits n = (IsNumeral 10 digits × (digits_value 10 digits < 2 ^ 32)) × (n ≡ digits_value 10 digits)

-- a number that was parsed from a text that begins with another digit than 0 has that text
pub parsed_is : (text : List ℕ) (n : ℕ) → 48 < get_or text 0 0 → IsParsed (without_leading_plus text) n → text ≡ decimal n
parsed_is text n above parsed =
    let own : IsParsed text n = subst (λ (t : List ℕ). IsParsed t n) (no_plus text above) parsed in
    let back : decimal (digits_value 10 text) ≡ text =
    decimal-digits_value digits_model text own.0.0.1 own.0.0.0 (λ zero. absurd (omega arith)) (omega arith) in
    sym back ∙ ap (λ (m : ℕ). decimal m) (sym own.1)

-- the first byte of a text
pub first_is : (text : List ℕ) (b : ℕ) → Some b ≡ slice_get text 0 → get_or text 0 0 ≡ b
first_is [] b h = cc
first_is (x ∷ xs) b h = cc

-- what is read of a text is an id, and the text is that id in decimal
pub id_told : (text : List ℕ) (n : ℕ) → id_of text ≡ Some n → IsIdText text n
id_told text n told =
    let v = digits_value 10 text in
    elim (is_id_text text v) as (λ b. is_id_text text v ≡ b → (if b then Some v else None) ≡ Some n → IsIdText text n) [
      | true ↦ λ e h.
          let same : v ≡ n = cc in
          subst (λ (m : ℕ). IsIdText text m) same (let is = (decided text v).0 e in record { text_is = is.0.0; low = is.0.1; high = is.1 })
      | false ↦ λ e h. absurd cc
    ] refl told
