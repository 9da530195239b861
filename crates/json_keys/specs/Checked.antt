-- What an object says, or the first rule that it breaks.
use Rattle.std.specs.Prelude.{ℕ, List, Option, None, Some}
use Rattle.serde_json.specs.Data.{Data}
use Rattle.json_keys.specs.Fault.{first_fault}
use Rattle.json_keys.specs.declared.checked.Checked.{Checked}
use Rattle.json_keys.specs.declared.checked.Checked.TheVariants as checked
use Rattle.json_keys.specs.declared.rule.Rule.{Rule}
use Rattle.json_keys.specs.declared.shape.Ask.{Ask}

-- a value, or its first fault
abbrev pub unless_faulty : {X : Type 0} → X → Option (List ℕ × Rule) → Checked X
unless_faulty x None = checked.Right x
unless_faulty x (Some f) = checked.Broken f.0 f.1

-- what an object says by a table of keys
abbrev pub read_checked : {X : Type 0} → (Data → X) → List (List ℕ × Ask) → Data → Checked X
read_checked of keys d = unless_faulty (of d) (first_fault keys d)

-- what follows, of what broke no rule so far
abbrev pub go_on : {X Y : Type 0} → (X → Checked Y) → Checked X → Checked Y
go_on next (checked.Right x) = next x
go_on next (checked.Broken f r) = checked.Broken f r
