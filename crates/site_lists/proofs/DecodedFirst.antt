-- An encoded text, decoded from its front on.
use Rattle.std.proofs.Common.{◌≡◌, ℕ, ◌+◌, ◌*◌, ◌<◌, ◌≤◌, List, [], ◌∷◌, ◌++◌, length, get_or, drop, map, false, ◌==◌, refl, sym, ◌∙◌, arith}
use Rattle.std.specs.Char.{digit_value}
use Rattle.std.specs.Str.{bytes_eq}
use Rattle.std.proofs.lemmas.Bool.{cond_both}
use Rattle.std.proofs.lemmas.Bool.Decides.{nat_tests}
use Rattle.std.proofs.lemmas.List.{drop_more, drop_all, append-nil}
use Rattle.form_urlencoded.specs.Form.{decode, plus_to_space, plus_sign, space}
use Rattle.percent_encoding.specs.Percent.{KeepsFirst}
use Rattle.percent_encoding.proofs.PercentLemmas.{KeepsFirst_from_no_escape, percent_decode-nil, percent_decode_escape, length-percent_decode}

-- ---- a space in place of a plus makes no escape and breaks none

percent_kept : (b : ℕ) → plus_to_space b ≡ 37 → b ≡ 37
percent_kept b percent = grind (arith, nat_tests)

digit_kept : (b : ℕ) → digit_value b < 16 → plus_to_space b ≡ b
digit_kept b digit = grind (arith, nat_tests)

was_digit : (b : ℕ) → digit_value (plus_to_space b) < 16 → digit_value b < 16
was_digit b = cond_both (b == plus_sign) space b (λ x. digit_value x < 16 → digit_value b < 16) (λ _ digit. absurd (omega arith)) (λ _ digit. digit)

-- text that begins with no escape keeps its first byte, or has a space for it
pub keeps_first : (text : List ℕ) → (3 ≤ length text → get_or text 0 0 ≡ 37 → digit_value (get_or text 1 0) < 16 → digit_value (get_or text 2 0) < 16 → ⊥) → KeepsFirst (map plus_to_space text)
keeps_first [] never = tt
keeps_first (b ∷ []) never = KeepsFirst_from_no_escape (plus_to_space b ∷ []) (λ long. absurd (omega arith))
keeps_first (b ∷ c ∷ []) never = KeepsFirst_from_no_escape (plus_to_space b ∷ plus_to_space c ∷ []) (λ long. absurd (omega arith))
keeps_first (b ∷ high ∷ low ∷ rest) never =
    KeepsFirst_from_no_escape (map plus_to_space (b ∷ high ∷ low ∷ rest)) (λ long percent first second. never (omega arith) (percent_kept b percent) (was_digit high first) (was_digit low second))

-- text that begins with an escape
pub decode_escape : (text : List ℕ) → 3 ≤ length text → get_or text 0 0 ≡ 37 → digit_value (get_or text 1 0) < 16 → digit_value (get_or text 2 0) < 16 → decode text ≡ (16 * digit_value (get_or text 1 0) + digit_value (get_or text 2 0)) ∷ decode (drop 3 text)
decode_escape [] long percent first second = absurd (omega arith)
decode_escape (b ∷ []) long percent first second = absurd (omega arith)
decode_escape (b ∷ c ∷ []) long percent first second = absurd (omega arith)
decode_escape (b ∷ high ∷ low ∷ rest) long percent first second =
    rw (percent, digit_kept high first, digit_kept low second) (percent_decode_escape 37 high low (map plus_to_space rest) refl first second)

-- ---- what is left of a name against what is left of a text

pub name_left : (name left : List ℕ) (i : ℕ) → i < length name → left ≡ [] → bytes_eq (drop i name) (decode left) ≡ false
name_left name left i inside none = rw (drop_more name i 0 inside, none, percent_decode-nil) refl

longer : (decoded : List ℕ) → 0 < length decoded → bytes_eq [] decoded ≡ false
longer [] nonempty = absurd (omega arith)
longer (b ∷ rest) nonempty = refl

text_left : (left : List ℕ) → bytes_eq [] (decode left) ≡ (length left == 0)
text_left [] = rw percent_decode-nil refl
text_left (b ∷ rest) =
    let decoded = (length-percent_decode (map plus_to_space (b ∷ rest))).1 in
    let some : (length (b ∷ rest) == 0) ≡ false = grind (arith, nat_tests) in
    longer (decode (b ∷ rest)) (omega arith) ∙ sym some

pub name_over : (name left : List ℕ) (i : ℕ) → length name ≤ i → bytes_eq (drop i name) (decode left) ≡ (length left == 0)
name_over name left i over = rw (drop_all i name over) (text_left left)

-- ---- what is decoded so far and what is left

pub nothing_left : (out left : List ℕ) → left ≡ [] → out ++ decode left ≡ out
nothing_left out left none = rw (none, percent_decode-nil) (append-nil out)
