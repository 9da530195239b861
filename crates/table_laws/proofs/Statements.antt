-- The statements that write, as statements of a transaction.
use Rattle.std.proofs.Common.{◌≡◌, ℕ, List, [], ◌∷◌, true, false, Result, ap}
use Rattle.sqlite.specs.State.{State, HasCleanDisk, Executes, Survives, CommitsBy}
use Rattle.sqlite.specs.declared.error.Error.{Error}
use Rattle.sqlite.specs.declared.types.Value.TheVariants.{Text, Blob}
use Rattle.store_six.specs.Tables.{IsSet, IsRemoved, OnCells, OnTags}
use Rattle.table_laws.proofs.Texts.{set_row_is, remove_row_is, set_tag_is}
use Rattle.table_laws.proofs.Turns.{is_end, alters}
use Rattle.table_laws.proofs.Writes.{row_is, row_is_removed, tag_is}
use Rattle.table_laws.specs.Moments.{ServesClean, Alters}
use Rattle.table_laws.specs.Schema.{set_row, remove_row, set_tag}

module _ (old new : State) (inside : old.in_transaction ≡ true) (serves : ServesClean old) (key : List ℕ) where
  pub sets_row : (body : List ℕ) → Survives old new (CommitsBy set_row (Text key ∷ Text body ∷ []) old) → (r : Result ℕ Error)
      → (HasCleanDisk new → Executes set_row (Text key ∷ Text body ∷ []) old new r) → Alters (OnCells (IsSet key body)) old new r
  sets_row body = alters set_row (Text key ∷ Text body ∷ []) (OnCells (IsSet key body)) (row_is key body) (ap is_end set_row_is) old new inside serves

  pub removes_row : Survives old new (CommitsBy remove_row (Text key ∷ []) old) → (r : Result ℕ Error)
      → (HasCleanDisk new → Executes remove_row (Text key ∷ []) old new r) → Alters (OnCells (IsRemoved key)) old new r
  removes_row = alters remove_row (Text key ∷ []) (OnCells (IsRemoved key)) (row_is_removed key) (ap is_end remove_row_is) old new inside serves

  pub sets_tag : (count : List ℕ) → Survives old new (CommitsBy set_tag (Text key ∷ Blob count ∷ []) old) → (r : Result ℕ Error)
      → (HasCleanDisk new → Executes set_tag (Text key ∷ Blob count ∷ []) old new r) → Alters (OnTags (IsSet key count)) old new r
  sets_tag count = alters set_tag (Text key ∷ Blob count ∷ []) (OnTags (IsSet key count)) (tag_is key count) (ap is_end set_tag_is) old new inside serves
