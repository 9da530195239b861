-- The hex digits of two words of chance.
use Rattle.std.specs.Prelude.{ℕ, List, ◌++◌}
use Rattle.std.specs.Int.{w64, to_be_bytes}
use Rattle.hex.specs.Hex.{encode_lower}
use Rattle.edit_bodies.specs.declared.words.Words.{Words}

-- the bytes of two words, the highest of each first
unfoldable pub bytes_of : Words → List ℕ
bytes_of words = to_be_bytes w64 words.first ++ to_be_bytes w64 words.second

-- the 16 lower-case hex digits of the first, and then those of the second
abbrev pub digits_of : Words → List ℕ
digits_of words = encode_lower (bytes_of words)
