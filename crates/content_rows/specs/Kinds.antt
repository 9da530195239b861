-- The kinds of value that the keys of rows have, beside flags, machine names and plain numbers.
use Rattle.std.specs.Prelude.{ℕ, List, [], ◌∷◌, length, Bool, true, false, ◌&&◌, ◌||◌, ◌==◌, not, nat_le, ◌≤◌, ℤ, pos, negsuc, ◌≤ℤ◌, Option, codes}
use Rattle.std.specs.List.{list_all, list_any, slice_split, before_first}
use Rattle.std.specs.Option.{option_map_or}
use Rattle.std.specs.Str.{is_utf8, bytes_eq}

-- ---- numbers

-- whole seconds since 1970-01-01 UTC, up to the first second of the year 2100
abbrev pub IsMoment : ℕ → Type 0
IsMoment n = n ≤ 4102444800

-- the number of a node, a term, a user or a comment
abbrev pub IsId : ℕ → Type 0
IsId n = (1 ≤ n) × (n ≤ 4294967294)

-- an age in seconds, up to a day
abbrev pub IsAge : ℕ → Type 0
IsAge n = n ≤ 86400

-- a span that a listing looks back over, in seconds, up to 365 days
abbrev pub IsSpan : ℕ → Type 0
IsSpan n = (1 ≤ n) × (n ≤ 31536000)

-- the weight of a block or a link
abbrev pub IsWeight : ℤ → Type 0
IsWeight z = (negsuc 999 ≤ℤ z) × (z ≤ℤ pos 1000)

-- ---- texts

-- no control byte
abbrev pub is_line_byte : ℕ → Bool
is_line_byte b = nat_le 32 b && not (b == 127)

-- no control byte but tab, line feed and carriage return
abbrev pub is_text_byte : ℕ → Bool
is_text_byte b = nat_le 32 b || b == 9 || b == 10 || b == 13

-- `0` to `9` and `a` to `f`
abbrev pub is_hex_digit : ℕ → Bool
is_hex_digit b = (nat_le 48 b && nat_le b 57) || (nat_le 97 b && nat_le b 102)

-- a lower-case letter, a digit or `-`
abbrev pub is_uuid_byte : ℕ → Bool
is_uuid_byte b = (nat_le 97 b && nat_le b 122) || (nat_le 48 b && nat_le b 57) || b == 45

-- a lower-case letter, a digit, `-`, `_` or `/`
abbrev pub is_target_byte : ℕ → Bool
is_target_byte b = is_uuid_byte b || b == 95 || b == 47

-- UTF-8 of 1 to so many bytes, without control bytes
abbrev pub is_line : ℕ → List ℕ → Bool
is_line most t = nat_le 1 (length t) && nat_le (length t) most && list_all is_line_byte t && is_utf8 t

-- UTF-8 of at most 65,536 bytes, without control bytes but those of lines
abbrev pub is_text : List ℕ → Bool
is_text t = nat_le (length t) 65536 && list_all is_text_byte t && is_utf8 t

-- what a comment says: a text of at least one byte
abbrev pub is_comment_body : List ℕ → Bool
is_comment_body t = nat_le 1 (length t) && is_text t

-- a universal id
abbrev pub is_uuid : List ℕ → Bool
is_uuid t = nat_le 1 (length t) && nat_le (length t) 64 && list_all is_uuid_byte t

-- the name of a permission
abbrev pub is_permission : List ℕ → Bool
is_permission = is_line 128

-- so many lower-case hex digits
abbrev pub is_hex : ℕ → List ℕ → Bool
is_hex count t = length t == count && list_all is_hex_digit t

-- ---- paths

abbrev pub is_slash : ℕ → Bool
is_slash b = b == 47

abbrev pub is_something : List ℕ → Bool
is_something t = nat_le 1 (length t)

-- a path of the site: `/`, and 1 to 255 bytes more, no segment of which is empty
abbrev pub is_target : List ℕ → Bool
is_target [] = false
is_target (first ∷ rest) =
    is_slash first && nat_le 1 (length rest) && nat_le (length rest) 255 && list_all is_target_byte rest && list_all is_something (slice_split is_slash rest)

-- the first segments whose paths the site gives out by itself
abbrev pub reserved_segments : List (List ℕ)
reserved_segments = codes "node" ∷ codes "taxonomy" ∷ codes "user" ∷ codes "config" ∷ codes "cache" ∷ codes "json" ∷ []

-- whether a path begins with a segment of the site's own
abbrev pub is_reserved : List ℕ → Bool
is_reserved [] = false
is_reserved (first ∷ rest) = list_any (bytes_eq (before_first is_slash rest)) reserved_segments

-- a path that a node may have
abbrev pub is_path : List ℕ → Bool
is_path t = is_target t && not (is_reserved t)

-- a path that a listing may have: also that of all nodes
abbrev pub is_listing_path : List ℕ → Bool
is_listing_path t = is_path t || bytes_eq t (codes "/node")

-- a path that a block may be placed at: also the bare `/`, and the word for the front page
abbrev pub is_block_path : List ℕ → Bool
is_block_path t = is_target t || bytes_eq t (codes "/") || bytes_eq t (codes "<front>")

-- ---- values that may be wanting

-- null, or a value that passes the test
abbrev pub none_or : {X : Type 0} → (X → Bool) → Option X → Bool
none_or test value = option_map_or test value true
