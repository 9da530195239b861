-- What a table that lets a body through says of what is read of each key that may be left out.
use Rattle.std.proofs.Common.{◌≡◌, ℕ, List, Option, None, Some, refl, option_map}
use Rattle.serde_json.specs.Data.{Data}
use Rattle.serde_json.specs.Find.{get}
use Rattle.json_keys.specs.Checked.{read_checked, unless_faulty}
use Rattle.json_keys.specs.Fault.{named, ask_fault, is_wanted, first_fault}
use Rattle.json_keys.specs.Order.{AllInOrder}
use Rattle.json_keys.specs.declared.rule.Rule.{Rule}
use Rattle.json_keys.specs.declared.shape.Ask.{Ask}
use Rattle.row_kinds.specs.Look.{OrNone}
use Rattle.row_kinds.proofs.Codec.{Codec}
use Rattle.row_kinds.proofs.Objects.{IsPassed, IsLet, let_through}
use Rattle.site_commands.specs.Right.{OfBody}
use Rattle.body_kinds.specs.Bodies.{sent}

-- ---- a key that may be left out

sent_at : {X : Type 0} (fault : Data → Option Rule) (of : Data → X) (shown : X → Data) (Good : X → Type 0) → Codec X fault of shown Good → (o : Option Data) → IsLet fault o → OrNone Good (option_map of o)
sent_at fault of shown Good c None h = tt
sent_at fault of shown Good c (Some v) h = let is = h v refl in c.right v is.0 is.1

-- what a key says that is there is good
pub sent_right : {X : Type 0} {of : Data → X} {shown : X → Data} {Good : X → Type 0} {ks : List (List ℕ × Ask)} {d : Data} → IsPassed ask_fault is_wanted ks d → (k : List ℕ) (a : Ask)
    → named ks k ≡ Some a → Codec X (ask_fault a) of shown Good → OrNone Good (sent of k d)
sent_right {X} {of} {shown} {Good} {ks} {d} p k a n c = sent_at (ask_fault a) of shown Good c (get k d) (let_through p k a n)

-- ---- a whole body

checked_at : {X : Type 0} (of : Data → X) (keys : List (List ℕ × Ask)) (P : X → Type 0) (d : Data) (f : Option (List ℕ × Rule)) → first_fault keys d ≡ f → AllInOrder d
    → (IsPassed ask_fault is_wanted keys d → P (of d)) → OfBody P (unless_faulty (of d) f)
checked_at of keys P d None is o right = right (record { order = o; passed = is })
checked_at of keys P d (Some f) is o right = tt

-- a body that breaks no rule is right, where one that its table lets through is
pub checked_right : {X : Type 0} (of : Data → X) (keys : List (List ℕ × Ask)) (P : X → Type 0) (d : Data) → AllInOrder d → (IsPassed ask_fault is_wanted keys d → P (of d))
    → OfBody P (read_checked of keys d)
checked_right of keys P d o right = checked_at of keys P d (first_fault keys d) refl o right
