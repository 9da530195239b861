-- The object of JSON that bytes are.
use Rattle.std.specs.Prelude.{ℕ, List, ◌∷◌, Bool, true, false, Option, Some, None, unwrap_or, if◌then◌else◌}
use Rattle.std.specs.Option.{option_and_then}
use Rattle.std.specs.Str.{is_utf8}
use Rattle.json.specs.Token.{Token}
use Rattle.serde_json.specs.Data.{Data, object, no_members}
use Rattle.serde_json.specs.Read.{read}

-- the value of JSON that bytes are (RFC 8259)
abbrev pub value_of : List ℕ → Option Data
value_of bytes = if is_utf8 bytes then read bytes else None

abbrev pub object_if : Data → Option Data
object_if (object ms) = Some (object ms)
object_if _ = None

-- the object of JSON that a text of UTF-8 is
abbrev pub text_object : List ℕ → Option Data
text_object text = option_and_then object_if (read text)

-- the object of JSON that they are
abbrev pub object_of : List ℕ → Option Data
object_of bytes = option_and_then object_if (value_of bytes)

-- an object without keys
abbrev pub no_object : Data
no_object = object no_members

-- the object that bytes are; of those that are none an empty one
abbrev pub object_in : List ℕ → Data
object_in bytes = unwrap_or (object_of bytes) no_object

-- a brace that opens an object comes first
abbrev pub opens_object : List Token → Bool
opens_object (Token.begin_object ∷ ts) = true
opens_object _ = false
