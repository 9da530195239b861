-- Which requests are no edits.
use Rattle.std.specs.Prelude.{ℕ, List, Bool, codes, nat_eq}
use Rattle.std.specs.List.{starts_with}

-- whether bytes begin as a request does whose method is GET
abbrev pub begins_get : List ℕ → Bool
begins_get bytes = starts_with nat_eq bytes (codes "GET ")
