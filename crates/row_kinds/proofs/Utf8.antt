-- A text is written as it is where it is UTF-8, and texts of ASCII are.
use Rattle.std.proofs.Common.{◌≡◌, ◌<◌, ℕ, List, [], ◌∷◌, Bool, true, false, refl, arith}
use Rattle.std.specs.List.{list_all}
use Rattle.std.specs.Str.{is_utf8, IsAscii}
use Rattle.std.proofs.lemmas.Bool.{and_parts}
use Rattle.std.proofs.lemmas.Str.Ascii.{IsAscii-nil, IsAscii-cons}
use Rattle.std.proofs.lemmas.Str.{is_utf8-from_IsUtf8, IsUtf8-from_ascii}
use Rattle.cacheability.specs.Name.{is_name_byte}
use Rattle.content_rows.specs.Kinds.{is_uuid_byte, is_hex_digit, is_target_byte, is_slash}
use Rattle.serde_json.specs.Data.{string, null}
use Rattle.row_kinds.specs.Look.{text_data}

pub text_written : (t : List ℕ) → is_utf8 t ≡ true → text_data t ≡ string t
text_written t h = rw h refl

pub text_lost : (t : List ℕ) → is_utf8 t ≡ false → text_data t ≡ null
text_lost t h = rw h refl

-- ---- bytes that are ASCII

pub ascii_bytes : (test : ℕ → Bool) → ((b : ℕ) → test b ≡ true → b < 128) → (t : List ℕ) → list_all test t ≡ true → IsAscii t
ascii_bytes test small [] h = IsAscii-nil
ascii_bytes test small (b ∷ t) h = let both = and_parts (test b) (list_all test t) h in IsAscii-cons b t (small b both.0) (ascii_bytes test small t both.1)

pub ascii_utf8 : (test : ℕ → Bool) → ((b : ℕ) → test b ≡ true → b < 128) → (t : List ℕ) → list_all test t ≡ true → is_utf8 t ≡ true
ascii_utf8 test small t h = is_utf8-from_IsUtf8 t (IsUtf8-from_ascii t (ascii_bytes test small t h))

pub name_byte : (b : ℕ) → is_name_byte b ≡ true → b < 128
name_byte b h = grind arith

pub uuid_byte : (b : ℕ) → is_uuid_byte b ≡ true → b < 128
uuid_byte b h = grind arith

pub hex_digit : (b : ℕ) → is_hex_digit b ≡ true → b < 128
hex_digit b h = grind arith

pub target_byte : (b : ℕ) → is_target_byte b ≡ true → b < 128
target_byte b h = grind arith

pub slash_byte : (b : ℕ) → is_slash b ≡ true → is_target_byte b ≡ true
slash_byte b h = grind arith
