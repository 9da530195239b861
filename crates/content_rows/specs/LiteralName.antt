-- Machine names as texts.
use Rattle.std.specs.Prelude.{ℕ, List, length, Bool, Option, Some, None, ◌&&◌, nat_le, if◌then◌else◌}
use Rattle.std.specs.List.{list_all}
use Rattle.cacheability.specs.Name.{is_name_byte}

-- whether these bytes are a machine name
abbrev pub is_name : List ℕ → Bool
is_name bytes = nat_le 1 (length bytes) && nat_le (length bytes) 64 && list_all is_name_byte bytes

-- the machine name that a text is, if it is one
abbrev pub name_of : List ℕ → Option (List ℕ)
name_of text = if is_name text then Some text else None
