-- Words of chance: the key stream of ChaCha20 (RFC 8439, 2.3), whose key is a seed of 32 bytes. The counter of its blocks
-- and its nonce have 64 bits each, and the nonce is the number of the stream.
use Rattle.std.specs.Prelude.{ℕ, List}
use Rattle.rand_core.specs.Steps.{u64_via_u32}
use Rattle.rand_chacha.specs.ChaCha.{ChaCha, next_word, of_seed}

-- the stream of that number, of which nothing is drawn yet
abbrev pub stream_at : List ℕ → ℕ → ChaCha
stream_at seed number = record (of_seed seed) { stream = number }

-- the next word, of two words of 32 bits, the low half first; and what is left of the stream
abbrev pub next_chance : ChaCha → ℕ × ChaCha
next_chance stream = u64_via_u32 (next_word 10) stream
