-- What is made of a whole head: the length of its body, or the code that refuses it
-- (RFC 9112, section 6; RFC 9110, sections 8.6 and 15.5).
use Rattle.std.specs.Prelude.{ℕ, List, [], ◌∷◌, Bool, false, ◌==◌, ◌&&◌, nat_lt, nat_le, length, if◌then◌else◌, Option, Some, None, Result, Ok, Err}
use Rattle.std.specs.Prelude.{count_by}
use Rattle.std.specs.List.{list_all}
use Rattle.std.specs.Char.{is_ascii_digit}
use Rattle.std.specs.Str.Parse.{digits_value}
use Rattle.httparse.specs.Grammar.{RequestHead}
use Rattle.http_heads.specs.Fields.{content_length, transfer_encoding, fields_of, is_named, stands, first_value}

-- the most bytes of a head
unfoldable pub head_limit : ℕ
head_limit = 16384

-- the most fields of a head
unfoldable pub field_limit : ℕ
field_limit = 64

-- the most bytes of a body
unfoldable pub body_limit : ℕ
body_limit = 1048576

-- 1 to 10 digits
abbrev pub is_length : List ℕ → Bool
is_length value = nat_lt 0 (length value) && nat_le (length value) 10 && list_all is_ascii_digit value

-- the number of a value, nothing where it is none
abbrev pub value_length : List ℕ → Option ℕ
value_length value = if is_length value then Some (digits_value 10 value) else None

-- the number that a Content-Length field gives: 0 where there is none
abbrev pub length_given : Option (List ℕ) → Option ℕ
length_given None = Some 0
length_given (Some value) = value_length value

-- the length of the body; nothing where more than one Content-Length field stands
abbrev pub body_length : List (List ℕ × List ℕ) → Option ℕ
body_length fields =
    if nat_lt 1 (count_by (is_named content_length) fields) then None
    else length_given (first_value content_length fields)

-- the first byte is `/`
abbrev pub begins_slash : List ℕ → Bool
begins_slash [] = false
begins_slash (b ∷ bytes) = b == 47

-- the length of the body, or the code: of a length, and of the target
abbrev pub sized : Option ℕ → List ℕ → Result ℕ ℕ
sized None target = Err 400
sized (Some n) target = if nat_lt body_limit n then Err 413 else (if begins_slash target then Ok n else Err 400)

-- the same, of the fields and the target, in the order in which faults are answered: too many
-- fields, a coding, an ill-formed length, a body too large, a target of another form
abbrev pub judged_parts : List (List ℕ × List ℕ) → List ℕ → Result ℕ ℕ
judged_parts fields target =
    if nat_lt field_limit (length fields) then Err 431
    else (if stands transfer_encoding fields then Err 501 else sized (body_length fields) target)

-- the same, of a head
abbrev pub judged : RequestHead → Result ℕ ℕ
judged head = judged_parts (fields_of head) head.target
