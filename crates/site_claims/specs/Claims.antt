-- What contracts see of those who claim.
use Rattle.std.specs.Prelude.{◌≡◌, ℕ, List, ◌∷◌, Bool, true, false}
use Rattle.atomic_table.specs.Seated.{TableId}

-- a table of one word, without slots
abbrev pub IsTable : TableId → Type 0
IsTable table = (table.words ≡ 1) × (table.slots ≡ 0)

-- the numbers that are claimed from, how many there are, and of those who claimed and are back how many they claimed and how
-- many of them were refused; and for how many there is room
pub record ClaimsView : Type 0 where
  pub table : TableId
  pub limit : ℕ
  pub claims : ℕ
  pub over : ℕ
  pub room : ℕ

-- one who claims: from what, how many numbers there are, how many it claimed, and whether it was refused
pub record ClaimerView : Type 0 where
  pub table : TableId
  pub limit : ℕ
  pub claims : ℕ
  pub is_over : Bool

abbrev pub as_count : Bool → ℕ
as_count true = 1
as_count false = 0

-- the table as numbers, which no other table has
abbrev pub name_of : TableId → List ℕ
name_of table = table.words ∷ table.slots ∷ table.views_name ∷ table.atom ∷ table.block ∷ table.offset ∷ table.slot_names
