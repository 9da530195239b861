-- Why a database is refused as a store, where it isn't for the columns of a table or for want of memory.
use Rattle.std.specs.Prelude.{ℕ, List, [], ◌∷◌, None, Vec, Result, Ok, Err, MatchResult, IsTrue, false, ◌≡◌, ◌≢◌, ◌⊎◌}
use Rattle.std.specs.declared.alloc.Global.{Global}
use Rattle.sqlite.specs.Held.{Held, state}
use Rattle.sqlite.specs.Order.{Row}
use Rattle.sqlite.specs.State.{HasCleanDisk, Executes, Survives, CommitsBy}
use Rattle.sqlite.specs.Store.{Ghosts}
use Rattle.sqlite.specs.declared.error.Error.{Error}
use Rattle.table_laws.specs.Ids.{RisesFrom, AnswerRises}
use Rattle.table_laws.specs.Moments.{Queries}
use Rattle.table_laws.specs.Schema.{row_ids, tag_ids, begin, make_rows, make_tags, commit, no_tables, two_tables}
use Rattle.tables_sqlite.specs.Faults.{IsRefusal, IsMisshapen}
use Rattle.tables_sqlite.specs.declared.fault.StoreTable.{StoreTable}

-- ---- the rowids are tested

-- the answer of the query rises, and no transaction is open after it
pub record Passes {S : Type 0} (g : Ghosts S) (sql : List ℕ) (old new : Held S) : Type 0 where
  pub rises : AnswerRises g sql old new
  pub outside : new.in_transaction ≡ false

-- the query is refused; or its answer doesn't rise, or a transaction is open after it
pub record Fails {S : Type 0} (g : Ghosts S) (sql : List ℕ) (old new : Held S) : Type 0 where
  pub answer : Result (Vec Row Global) Error
  pub queries : Queries g sql [] old new answer
  pub why : MatchResult answer (λ rows. ¬ (RisesFrom None rows.items) ⊎ IsTrue new.in_transaction) IsRefusal

-- one of these queries fails, after those before it passed
abbrev pub OneFails : {S : Type 0} → Ghosts S → List (List ℕ) → Held S → Type 0
OneFails g [] s = ⊥
OneFails {S} g (sql ∷ more) s = (next : Held S) × (Fails g sql s next ⊎ (Passes g sql s next × OneFails g more next))

-- None of the tables that are there is misshapen; and the database holds anything else than the two tables, or a transaction
-- is open, or the rowids of a table fail the test.
pub record IsNoStore {S : Type 0} (g : Ghosts S) (s : Held S) : Type 0 where
  pub shaped : (table : StoreTable) → ¬ (IsMisshapen table s.schema)
  pub why : (s.schema ≢ two_tables) ⊎ (IsTrue s.in_transaction ⊎ OneFails g (row_ids ∷ tag_ids ∷ []) s)

-- ---- the tables are made

-- what is known of a statement that was run
pub record Ran {S : Type 0} (g : Ghosts S) (sql : List ℕ) (old new : Held S) (r : Result ℕ Error) : Type 0 where
  pub executes : HasCleanDisk (state g new) → Executes sql [] (state g old) (state g new) r
  pub survives : Survives (state g old) (state g new) (CommitsBy sql [] (state g old))

-- one of these statements is refused, after those before it were done
abbrev pub OneIsRefused : {S : Type 0} → Ghosts S → List (List ℕ) → Held S → Type 0
OneIsRefused g [] s = ⊥
OneIsRefused {S} g (sql ∷ more) s =
    (next : Held S) × (((e : Error) × Ran g sql s next (Err e) × IsRefusal e) ⊎ ((n : ℕ) × Ran g sql s next (Ok n) × OneIsRefused g more next))

-- where the database holds nothing the tables are not made; any other is no store
pub record IsNotToBe {S : Type 0} (g : Ghosts S) (s : Held S) : Type 0 where
  pub bare : s.schema ≡ no_tables → OneIsRefused g (begin ∷ make_rows ∷ make_tags ∷ commit ∷ []) s
  pub other : s.schema ≢ no_tables → IsNoStore g s
