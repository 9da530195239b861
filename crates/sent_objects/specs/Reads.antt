-- How a reading ends.
use Rattle.std.specs.Prelude.{◌≡◌, ℕ, List, Option, Some, option_map, Result, Err, String, string_bytes}
use Rattle.std.specs.declared.alloc.Global.{Global}
use Rattle.json.specs.Token.{Token}
use Rattle.sent_objects.specs.declared.inside.Fault.{Fault}
use Rattle.sent_objects.specs.declared.inside.Fault.TheVariants.{Invalid}

-- something was read, and these tokens follow it
abbrev pub IsRead : {A : Type 0} → Option (A × List Token) → List Token → Type 0
IsRead {A} o rest = (a : A) × (o ≡ Some (a, rest))

-- the text was refused, and memory was not at fault
abbrev pub IsRefusal : {A : Type 0} → Result A Fault → Type 0
IsRefusal r = r ≡ Err Invalid

abbrev pub text_in : Option (String Global) → Option (List ℕ)
text_in o = option_map string_bytes o
