-- The digits of two words are 32 lower-case hex digits, and so a machine name.
use Rattle.std.proofs.Common.{◌≡◌, ◌<◌, ◌≤◌, ◌+◌, ◌*◌, ◌/◌, ◌%◌, ◌^◌, ◌++◌, ℕ, zero, suc, List, [], ◌∷◌, length, slice_index, Bool, true, ◌&&◌, ◌==◌, IsTrue, refl, sym, ap, subst, ◌∙◌, inl, inr, arith}
use Rattle.std.specs.Int.{w64, byte_at, bytes_high_first, to_be_bytes}
use Rattle.std.specs.List.{AllByRecursion, list_all}
use Rattle.std.proofs.lemmas.Bool.{and_parts, cases_lt}
use Rattle.hex.specs.Hex.{encode_lower, encode_with, lower_digits}
use Rattle.hex.proofs.HexLemmas.{length-encode_with}
use Rattle.cacheability.specs.Name.{is_name_byte}
use Rattle.content_rows.specs.Kinds.{is_hex, is_hex_digit}
use Rattle.content_rows.specs.LiteralName.{is_name}
use Rattle.edit_bodies.specs.Digits.{bytes_of, digits_of}
use Rattle.edit_bodies.specs.declared.words.Words.{Words}

-- ---- bytes

abbrev AreBytes : List ℕ → Type 0
AreBytes xs = AllByRecursion (λ b. b < 256) xs

byte_small : (i n : ℕ) → byte_at i n < 256
byte_small zero n = omega arith
byte_small (suc i) n = omega arith

high_first : (k n : ℕ) → AreBytes (bytes_high_first k n)
high_first zero n = tt
high_first (suc k) n = (byte_small k n, high_first k n)

joined : (xs ys : List ℕ) → AreBytes xs → AreBytes ys → AreBytes (xs ++ ys)
joined [] ys h k = k
joined (x ∷ xs) ys h k = (h.0, joined xs ys h.1 k)

of_words : (w : Words) → AreBytes (bytes_of w)
unfolding bytes_of
of_words w = joined (to_be_bytes w64 w.first) (to_be_bytes w64 w.second) (high_first 8 w.first) (high_first 8 w.second)

pub sixteen : (w : Words) → length (bytes_of w) ≡ 16
unfolding bytes_of
sixteen w = refl

-- ---- digits

-- the test of the first n places, which computes
abbrev all_hex : ℕ → Bool
all_hex zero = true
all_hex (suc n) = is_hex_digit (slice_index lower_digits n) && all_hex n

hex_at : (n k : ℕ) → all_hex n ≡ true → k < n → is_hex_digit (slice_index lower_digits k) ≡ true
hex_at zero k h less = absurd (omega arith)
hex_at (suc n) k h less =
    let parts = and_parts (is_hex_digit (slice_index lower_digits n)) (all_hex n) h in
    elim (cases_lt k n) [ inl below ↦ hex_at n k parts.1 below | inr top ↦ let e : k ≡ n = omega arith in rw e parts.0 ]

digit : (k : ℕ) → k < 16 → is_hex_digit (slice_index lower_digits k) ≡ true
digit k less = hex_at 16 k refl less

all_digits : (xs : List ℕ) → AreBytes xs → list_all is_hex_digit (encode_lower xs) ≡ true
unfolding encode_with
all_digits [] h = refl
all_digits (x ∷ xs) h =
    let small : x < 256 = h.0 in
    rw (digit (x / 16) (omega arith), digit (x % 16) (omega arith), all_digits xs h.1) refl

long : (w : Words) → length (digits_of w) ≡ 32
long w = length-encode_with lower_digits (bytes_of w) ∙ ap (λ n. 2 * n) (sixteen w)

pub digits_hex : (w : Words) → IsTrue (is_hex 32 (digits_of w))
digits_hex w = rw (long w, all_digits (bytes_of w) (of_words w)) refl

-- ---- names

hex_in_name : (b : ℕ) → is_hex_digit b ≡ true → is_name_byte b ≡ true
hex_in_name b h = grind arith

name_bytes : (t : List ℕ) → list_all is_hex_digit t ≡ true → list_all is_name_byte t ≡ true
name_bytes [] h = refl
name_bytes (b ∷ t) h =
    let both = and_parts (is_hex_digit b) (list_all is_hex_digit t) h in rw (hex_in_name b both.0, name_bytes t both.1) refl

pub digits_name : (w : Words) → IsTrue (is_name (digits_of w))
digits_name w = rw (long w, name_bytes (digits_of w) (all_digits (bytes_of w) (of_words w))) refl
