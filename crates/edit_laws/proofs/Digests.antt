-- What is kept of a password is 64 lower-case hex digits.
use Rattle.std.proofs.Common.{◌≡◌, ◌<◌, ◌∙◌, inl, inr, ℕ, zero, suc, List, [], ◌∷◌, ◌++◌, true, refl, sym, ap, subst, arith, ◌/◌, ◌%◌}
use Rattle.std.specs.Prelude.{Bool, ◌&&◌, ◌==◌, length, slice_index}
use Rattle.std.specs.List.{list_all, AllByRecursion}
use Rattle.std.specs.Int.{to_be_bytes, bytes_high_first, byte_at, byte_len, w32}
use Rattle.std.proofs.lemmas.Bool.{cases_lt, and_parts, and_from, eq-eqb}
use Rattle.content_rows.specs.Kinds.{is_hex, is_hex_digit}
use Rattle.sha2.specs.Sha256.{sha256, digest_bytes, final_hash, initial_hash_256}
use Rattle.hex.specs.Hex.{lower_digits, encode_with}
use Rattle.hex.proofs.HexLemmas.{length-encode_with}
use Rattle.site_passwords.specs.Password.{digest_after, digest_text}
use Rattle.site_passwords.proofs.Rounds.{next_round, round_len}

-- ---- digits

-- the first so many digits are lower-case hex digits
abbrev are_digits : ℕ → Bool
are_digits zero = true
are_digits (suc n) = is_hex_digit (slice_index lower_digits n) && are_digits n

digit_below : (n d : ℕ) → are_digits n ≡ true → d < n → is_hex_digit (slice_index lower_digits d) ≡ true
digit_below zero d all below = absurd (omega arith)
digit_below (suc n) d all below =
    let parts = and_parts (is_hex_digit (slice_index lower_digits n)) (are_digits n) all in
    elim (cases_lt d n) as (λ _. is_hex_digit (slice_index lower_digits d) ≡ true) [
      | inl less ↦ digit_below n d parts.1 less
      | inr last ↦ let same : d ≡ n = omega arith in ap (λ k. is_hex_digit (slice_index lower_digits k)) same ∙ parts.0
    ]

is_digit : (d : ℕ) → d < 16 → is_hex_digit (slice_index lower_digits d) ≡ true
is_digit d below = digit_below 16 d refl below

-- ---- bytes

abbrev AreBytes : List ℕ → Type 0
AreBytes xs = AllByRecursion (λ b. b < 256) xs

bytes_joined : (xs ys : List ℕ) → AreBytes xs → AreBytes ys → AreBytes (xs ++ ys)
bytes_joined [] ys first second = second
bytes_joined (x ∷ xs) ys first second = (first.0, bytes_joined xs ys first.1 second)

is_byte : (i n : ℕ) → byte_at i n < 256
is_byte zero n = omega arith
is_byte (suc i) n = omega arith

low_bytes : (k n : ℕ) → AreBytes (bytes_high_first k n)
low_bytes zero n = tt
low_bytes (suc k) n = (is_byte k n, low_bytes k n)

word_bytes : (hash : List ℕ) (n : ℕ) → AreBytes (digest_bytes hash n)
unfolding digest_bytes
word_bytes hash zero = tt
word_bytes hash (suc n) = bytes_joined (digest_bytes hash n) (to_be_bytes w32 (slice_index hash n)) (word_bytes hash n) (low_bytes (byte_len w32) (slice_index hash n))

sha256_bytes : (message : List ℕ) → AreBytes (sha256 message)
unfolding sha256
sha256_bytes message = word_bytes (final_hash initial_hash_256 message) 8

round_bytes : (salt password : List ℕ) → AreBytes (digest_after 1000 salt password)
round_bytes salt password = subst AreBytes (sym (next_round 999 salt password)) (sha256_bytes (digest_after 999 salt password ++ password))

-- ---- the digest

hex_digits : (bytes : List ℕ) → AreBytes bytes → list_all is_hex_digit (encode_with lower_digits bytes) ≡ true
unfolding encode_with
hex_digits [] are = refl
hex_digits (b ∷ bytes) are =
    let fits : b < 256 = are.0 in
    and_from (is_hex_digit (slice_index lower_digits (b / 16))) _ (is_digit (b / 16) (omega arith))
    (and_from (is_hex_digit (slice_index lower_digits (b % 16))) _ (is_digit (b % 16) (omega arith)) (hex_digits bytes are.1))

pub digest_is_hex : (salt password : List ℕ) → is_hex 64 (digest_text salt password) ≡ true
digest_is_hex salt password =
    let bytes = round_len salt password in
    let twice = length-encode_with lower_digits (digest_after 1000 salt password) in
    and_from (length (digest_text salt password) == 64) (list_all is_hex_digit (digest_text salt password))
    (eq-eqb (length (digest_text salt password)) 64 (omega arith))
    (hex_digits (digest_after 1000 salt password) (round_bytes salt password))
