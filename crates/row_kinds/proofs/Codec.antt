-- Values that are judged, read and written so that these fit together.
use Rattle.std.proofs.Common.{◌≡◌, ◌≤◌, ℕ, List, Option, None, refl}
use Rattle.serde_json.specs.Data.{Data}
use Rattle.json_keys.specs.Fault.{shape_fault, first_fault}
use Rattle.json_keys.specs.Order.{AllInOrder}
use Rattle.json_keys.specs.declared.rule.Rule.{Rule}
use Rattle.json_keys.specs.declared.shape.Ask.{Ask}
use Rattle.json_keys.specs.declared.shape.Shape.TheVariants as shape
use Rattle.row_kinds.specs.Look.{nothing_said}

-- x is let through once it is written, and reads as x
abbrev pub Back : {X : Type 0} → (Data → Option Rule) → (Data → X) → (X → Data) → X → Type 0
Back fault of shown x = (fault (shown x) ≡ None) × (of (shown x) ≡ x)

-- what is let through is good, what is good comes back, and what is let through is written again as it was
pub record Codec (X : Type 0) (fault : Data → Option Rule) (of : Data → X) (shown : X → Data) (Good : X → Type 0) : Type 0 where
  pub right : (d : Data) → AllInOrder d → fault d ≡ None → Good (of d)
  pub back : (x : X) → Good x → Back fault of shown x
  pub kept : (d : Data) → AllInOrder d → fault d ≡ None → shown (of d) ≡ d

abbrev pub Between : ℕ → ℕ → ℕ → Type 0
Between low high n = (low ≤ n) × (n ≤ high)

-- what is judged elsewhere
pub any : Codec Data (shape_fault shape.Any) (λ d. d) (λ d. d) nothing_said
any = record { right = λ d o h. tt; back = λ d g. (refl, refl); kept = λ d o h. refl }

-- a row that is written with its cell is let through, and reads as what it was
abbrev pub ComesBack : {X : Type 0} → List (List ℕ × Ask) → (Data → X) → (X → Data) → X → Type 0
ComesBack keys of shown x = (first_fault keys (shown x) ≡ None) × (of (shown x) ≡ x)
