-- Digits and the numbers that they write.
use Rattle.std.proofs.Common.{◌≡◌, ℕ, ◌+◌, ◌-◌, ◌*◌, ◌<◌, ◌≤◌, ◌^◌, List, [], ◌∷◌, length, take, get_or, true, arith}
use Rattle.std.specs.Prelude.{◌&&◌, nat_le}
use Rattle.std.specs.List.{list_all}
use Rattle.std.specs.Char.{digit_value}
use Rattle.std.specs.Str.Parse.{AllDigits, digits_value}
use Rattle.std.proofs.lemmas.Bool.{and_parts, leb-true}
use Rattle.std.proofs.lemmas.Int.Digits.{digits_value_more}
use Rattle.std.proofs.lemmas.Str.{digit_value_digit}
use Rattle.std.proofs.lemmas.Str.Parse.{digit_at, digits_value_short, digits_value-take-le, numerals_by_value, tells_digits}
use Rattle.site_lists.specs.Paging.{is_digit, is_page_text}

is_below : (c : ℕ) → is_digit c ≡ true → digit_value c < 10
is_below c h =
    let parts = and_parts (nat_le 48 c) (nat_le c 57) h in
    let low : 48 ≤ c = leb-true 48 c parts.0 in
    let high : c ≤ 57 = leb-true c 57 parts.1 in
    let value : digit_value c + 48 ≡ c = digit_value_digit c (low, high) in
    omega arith

all_digits : (cs : List ℕ) → list_all is_digit cs ≡ true → AllDigits 10 cs
all_digits [] h = tt
all_digits (c ∷ cs) h = let parts = and_parts (is_digit c) (list_all is_digit cs) h in (is_below c parts.0, all_digits cs parts.1)

pub page_digits : (text : List ℕ) → is_page_text text ≡ true → AllDigits 10 text
page_digits text h = all_digits text (and_parts (nat_le 1 (length text) && nat_le (length text) 9) (list_all is_digit text) h).1

module _ (text : List ℕ) (i n : ℕ) (short : length text ≤ 9) (digits : AllDigits 10 text) (is : n ≡ digits_value 10 (take i text)) where
  pub few : n < 1000000000
  few =
      let whole : digits_value 10 text < 10 ^ 9 = digits_value_short (numerals_by_value (AllDigits 10) tells_digits) text 9 digits short in
      let part : digits_value 10 (take i text) ≤ digits_value 10 text = digits_value-take-le 10 text i (omega arith) in
      omega arith

  pub low : i < length text → 48 ≤ get_or text i 0
  low below = (digit_at text i digits below).0

  pub high : i < length text → get_or text i 0 ≤ 57
  high below = (digit_at text i digits below).1

  pub next : (d : ℕ) → i < length text → d ≡ get_or text i 0 - 48 → n * 10 + d ≡ digits_value 10 (take (i + 1) text)
  next d below digit =
      let more : digits_value 10 (take (i + 1) text) ≡ digits_value 10 (take i text) * 10 + digit_value (get_or text i 0) = digits_value_more 10 text i below in
      let value : digit_value (get_or text i 0) + 48 ≡ get_or text i 0 = digit_value_digit (get_or text i 0) (digit_at text i digits below) in
      omega arith
