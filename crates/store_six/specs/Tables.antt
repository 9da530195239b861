-- The two tables of a store, each told as its entries: a key with what stands beside it, or none where a row is of other
-- kinds than it should be. Only which entries there are is told, and not their order.
use Rattle.std.specs.Prelude.{ℕ, List, Option, Some, None, ◌≡◌, ◌≢◌, ◌⊎◌}
use Rattle.sqlite_rules.specs.Lists.{Has}

abbrev pub Entry : Type 0
Entry = List ℕ × List ℕ

abbrev pub Entries : Type 0
Entries = List (Option Entry)

-- cells with their bodies, and tags with their counts
pub record Tables : Type 0 where
  pub cells : Entries
  pub tags : Entries

-- the entry of a key and what stands beside it, where both are of the right kind
abbrev pub entry_of : Option (List ℕ) → Option (List ℕ) → Option Entry
entry_of (Some key) (Some beside) = Some (key, beside)
entry_of (Some key) None = None
entry_of None beside = None

-- ---- what a write makes of a table

-- the key stands with this beside it and with nothing else, and the entries of other keys are as they were
pub record IsSet (key beside : List ℕ) (old new : Entries) : Type 0 where
  pub there : Has new (Some (key, beside))
  pub others : (e : Entry) → e.0 ≢ key → Has old (Some e) → Has new (Some e)
  pub only : (e : Entry) → Has new (Some e) → (e ≡ (key, beside)) ⊎ (Has old (Some e) × (e.0 ≢ key))
  pub unread : Has new None → Has old None

-- no entry has the key, and the entries of other keys are as they were
pub record IsRemoved (key : List ℕ) (old new : Entries) : Type 0 where
  pub others : (e : Entry) → e.0 ≢ key → Has old (Some e) → Has new (Some e)
  pub only : (e : Entry) → Has new (Some e) → Has old (Some e) × (e.0 ≢ key)
  pub unread : Has new None → Has old None

-- one table is changed, and the other stays
pub record OnCells (Change : Entries → Entries → Type 0) (old new : Tables) : Type 0 where
  pub cells : Change old.cells new.cells
  pub tags : new.tags ≡ old.tags

pub record OnTags (Change : Entries → Entries → Type 0) (old new : Tables) : Type 0 where
  pub tags : Change old.tags new.tags
  pub cells : new.cells ≡ old.cells

-- ---- what is read of a table

-- no two entries have one key
abbrev pub AreKeyed : Entries → Type 0
AreKeyed table = (key a b : List ℕ) → Has table (Some (key, a)) → Has table (Some (key, b)) → a ≡ b

-- these are its entries, in some order, and no two have one key
pub record AreAll (table shown : Entries) : Type 0 where
  pub complete : (e : Option Entry) → Has table e → Has shown e
  pub sound : (e : Option Entry) → Has shown e → Has table e
  pub keyed : AreKeyed table

-- these are what stands beside a key; none in place of what is of another kind
pub record AreBeside (key : List ℕ) (table : Entries) (shown : List (Option (List ℕ))) : Type 0 where
  pub complete : (beside : List ℕ) → Has table (Some (key, beside)) → Has shown (Some beside)
  pub sound : (beside : Option (List ℕ)) → Has shown beside → Has table (entry_of (Some key) beside)
