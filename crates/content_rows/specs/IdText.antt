-- The numbers of nodes, terms, users and comments as texts.
use Rattle.std.specs.Prelude.{ℕ, List, Option, Some, None, ◌&&◌, nat_le, if◌then◌else◌}
use Rattle.std.specs.Fmt.{decimal}
use Rattle.std.specs.Str.{bytes_eq}
use Rattle.std.specs.Str.Parse.{digits_value}

-- the id that a text writes in decimal: a number from 1 to 4,294,967,294
abbrev pub id_of : List ℕ → Option ℕ
id_of text =
    let n = digits_value 10 text in
    if bytes_eq text (decimal n) && nat_le 1 n && nat_le n 4294967294 then Some n else None
