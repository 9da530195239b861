-- Numbers as a database holds them.
use Rattle.std.specs.Prelude.{ℕ, List, length, Option, Some, None, ◌&&◌, nat_eq, nat_le, if◌then◌else◌}
use Rattle.std.specs.Fmt.{decimal}
use Rattle.std.specs.Int.{w64, from_be_bytes}
use Rattle.std.specs.Str.{bytes_eq}
use Rattle.std.specs.Str.Parse.{digits_value}

-- the count that 8 bytes are, the most significant first
abbrev pub count_in : List ℕ → Option ℕ
count_in bytes = if nat_eq (length bytes) 8 then Some (from_be_bytes w64 bytes) else None

-- the number below 2 ^ 64 that a text is in decimal
abbrev pub head_in : List ℕ → Option ℕ
head_in text =
    let n = digits_value 10 text in
    if bytes_eq text (decimal n) && nat_le n 18446744073709551615 then Some n else None
