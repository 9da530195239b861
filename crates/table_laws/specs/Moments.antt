-- What a connection tells of the two tables, and what a statement does to that.
use Rattle.std.specs.Prelude.{ℕ, Bool, true, false, List, [], Vec, Result, IsTrue, IfOk, IfErr, OnOk, OnErr, ◌≡◌, ◌⊎◌}
use Rattle.std.proofs.Common.{ap, ◌∙◌}
use Rattle.std.specs.declared.alloc.Global.{Global}
use Rattle.sqlite.specs.Held.{Held, state}
use Rattle.sqlite.specs.Order.{Row}
use Rattle.sqlite.specs.State.{State, HasCleanDisk, IsLive, Survives, Shown, FailsToQuery, IsTooLate, IsRolledBack}
use Rattle.sqlite.specs.Store.{Ghosts}
use Rattle.sqlite.specs.Tree.{Trees}
use Rattle.sqlite.specs.declared.error.Error.{Error}
use Rattle.store_six.specs.Calls.{Tells, Passes, Nothing, Begins, Changes, Commits, KeepsKept, StaysOutside}
use Rattle.store_six.specs.Tables.{Tables}
use Rattle.table_laws.specs.Schema.{no_tables, two_tables}
use Rattle.table_laws.specs.Stored.{IsStore, tables_of}

-- ---- a moment

abbrev pub may_leave : State → Tables → Type 0
may_leave s t = (db : Trees) × s.may_leave db × (t ≡ tables_of db)

-- what a connection tells, of which so many faults are counted
abbrev pub told : ℕ → State → Tells
told faults s = record {
  clean = HasCleanDisk s;
  is_open = IsTrue s.is_open;
  inside = s.in_transaction;
  kept = tables_of s.committed.trees;
  seen = tables_of s.now.trees;
  leaves = may_leave s;
  faults = faults;
}

-- while it is open it holds the two tables and nothing else, and what is shut has no transaction
pub record Serves (s : State) : Type 0 where
  pub inside : IsTrue s.in_transaction → IsTrue s.is_open
  pub now : IsTrue s.is_open → IsStore s.now
  pub committed : IsTrue s.is_open → IsStore s.committed
  pub settled : IsTrue s.is_open → s.in_transaction ≡ false → s.now ≡ s.committed

abbrev pub ServesClean : State → Type 0
ServesClean s = HasCleanDisk s → Serves s

-- ---- a statement

-- of a transaction: what the transaction sees is changed so, and nothing is committed
pub record Alters (Change : Tables → Tables → Type 0) (old new : State) (r : Result ℕ Error) : Type 0 where
  pub serves : ServesClean new
  pub passes : Passes Nothing (told 0 old) (told 0 new)
  pub ok : HasCleanDisk new → OnOk r (Changes Change (told 0 old) (told 0 new))
  pub err : HasCleanDisk new → OnErr r (KeepsKept (told 0 old) (told 0 new))
  pub outside : HasCleanDisk new → OnErr r (StaysOutside (told 0 old) (told 0 new))

-- the begin
pub record Starts (old new : State) (r : Result ℕ Error) : Type 0 where
  pub serves : ServesClean new
  pub passes : Passes Nothing (told 0 old) (told 0 new)
  pub ok : HasCleanDisk new → OnOk r (Begins (told 0 old) (told 0 new))
  pub err : HasCleanDisk new → OnErr r (KeepsKept (told 0 old) (told 0 new))
  pub outside : HasCleanDisk new → OnErr r (StaysOutside (told 0 old) (told 0 new))

-- the commit
pub record Keeps (old new : State) (r : Result ℕ Error) : Type 0 where
  pub serves : ServesClean new
  pub passes : Passes (λ t. t ≡ tables_of old.now.trees) (told 0 old) (told 0 new)
  pub ok : HasCleanDisk new → OnOk r (Commits (told 0 old) (told 0 new))
  pub err : HasCleanDisk new → OnErr r (KeepsKept (told 0 old) (told 0 new))
  pub outside : HasCleanDisk new → OnErr r (StaysOutside (told 0 old) (told 0 new))

-- the end of a transaction of which nothing is kept
pub record Drops (old new : State) : Type 0 where
  pub serves : ServesClean new
  pub passes : Passes Nothing (told 0 old) (told 0 new)
  pub kept : HasCleanDisk new → KeepsKept (told 0 old) (told 0 new)
  pub outside : HasCleanDisk new → new.in_transaction ≡ false

-- a query of what is kept
pub record Finds (Wanted : List Row → Type 0) (old new : State) (r : Result (Vec Row Global) Error) : Type 0 where
  pub serves : ServesClean new
  pub passes : Passes Nothing (told 0 old) (told 0 new)
  pub kept : HasCleanDisk new → KeepsKept (told 0 old) (told 0 new)
  pub outside : HasCleanDisk new → new.in_transaction ≡ false
  pub ok : HasCleanDisk new → IfOk r (λ rows. IsTrue old.is_open × Wanted rows.items)

-- a query in a transaction of its own, which is rolled back
pub record Queries {S : Type 0} (g : Ghosts S) (sql : List ℕ) (params : Row) (old new : Held S) (r : Result (Vec Row Global) Error) : Type 0 where
  -- as the query leaves it, before the rollback
  pub mid : Held S
  pub first : Survives (state g (record old { in_transaction = true })) (state g mid) (λ _. ⊥)
  pub shown : HasCleanDisk (state g mid) → IfOk r (λ rows. Shown sql params (state g (record old { in_transaction = true })) (state g mid) rows.items)
  pub refused : HasCleanDisk (state g mid)
      → IfErr r (λ e. FailsToQuery sql params (state g (record old { in_transaction = true })) (state g mid) e ⊎ IsTooLate sql params (state g (record old { in_transaction = true })) (state g mid) e)
  pub second : Survives (state g mid) (state g new) (λ _. ⊥)
  pub undone : HasCleanDisk (state g new) → IsRolledBack (state g mid) (state g new)

-- ---- a store is opened over a connection

abbrev pub no_entries : Tables
no_entries = record { cells = []; tags = [] }

-- the tables that are there are kept as they are, and where the database held nothing there are two that are empty
abbrev pub KeepsOrMakes : State → State → Type 0
KeepsOrMakes old new =
    ((old.now.schema ≡ two_tables) × (tables_of new.committed.trees ≡ tables_of old.committed.trees)) ⊎ ((old.now.schema ≡ no_tables) × (tables_of new.committed.trees ≡ no_entries))

-- a database of the two tables, of which only the rowids are not known to come once
pub record HasTables (s : State) : Type 0 where
  pub schema : s.now.schema ≡ two_tables
  pub outside : s.in_transaction ≡ false
  pub live : IsLive s
  pub settled : IsTrue s.is_open → s.now ≡ s.committed

pub record IsOver (old new : State) : Type 0 where
  pub serves : ServesClean new
  pub passes : Passes (λ t. t ≡ no_entries) (told 0 old) (told 0 new)
  pub outside : HasCleanDisk new → new.in_transaction ≡ false
  pub kept : HasCleanDisk new → IsTrue new.is_open → KeepsOrMakes old new
