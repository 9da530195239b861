-- Why a database is refused, by the calls that test it or make its tables.
use Rattle.std.proofs.Common.{inl, inr, ◌≡◌, ◌≢◌, ◌⊎◌, ◌≤◌, ℕ, ℤ, List, [], ◌∷◌, length, Bool, true, false, Option, None, Ok, Err, Vec, Result, IsTrue, IfOk, IfErr, sym, subst, ◌∙◌, true≢false, arith}
use Rattle.std.specs.declared.alloc.Global.{Global}
use Rattle.sqlite.specs.Held.{Held, state}
use Rattle.sqlite.specs.Order.{Row, column}
use Rattle.sqlite.specs.Schema.{Schema}
use Rattle.sqlite.specs.State.{HasCleanDisk, Executes, Survives, CommitsBy}
use Rattle.sqlite.specs.Store.{Ghosts}
use Rattle.sqlite.specs.declared.error.Error.{Error}
use Rattle.sqlite.specs.declared.types.Value.TheVariants.{Int}
use Rattle.table_laws.proofs.Over.{is_tested}
use Rattle.table_laws.specs.Ids.{IsAbove, RisesFrom}
use Rattle.table_laws.specs.Moments.{Queries, HasTables, IsOver}
use Rattle.table_laws.specs.Schema.{row_ids, tag_ids, begin, make_rows, make_tags, commit, no_tables, two_tables}
use Rattle.tables_sqlite.specs.Faults.{no_keeper_of, IsRefusal, IsMisshapen}
use Rattle.tables_sqlite.specs.Refusals.{Passes, Fails, OneFails, IsNoStore, OneIsRefused, IsNotToBe}
use Rattle.tables_sqlite.specs.declared.fault.NoKeeper.{NoKeeper}
use Rattle.tables_sqlite.specs.declared.fault.NoKeeper.TheVariants as no_keeper
use Rattle.tables_sqlite.specs.declared.fault.StoreTable.{StoreTable}

-- ---- the rowids are tested

module _ {S : Type 0} (g : Ghosts S) (sql : List ℕ) (old new : Held S) where
  pub refused_query : (e : Error) → Queries g sql [] old new (Err e) → IsRefusal e → Fails g sql old new
  refused_query e asked refusal = record { answer = Err e; queries = asked; why = refusal }

  pub useless_answer : (rows : Vec Row Global) → Queries g sql [] old new (Ok rows) → ¬ (RisesFrom None rows.items) ⊎ IsTrue new.in_transaction → Fails g sql old new
  useless_answer rows asked why = record { answer = Ok rows; queries = asked; why = why }

module _ {S : Type 0} (g : Ghosts S) (old mid : Held S) where
  pub first_fails : Fails g row_ids old mid → OneFails g (row_ids ∷ tag_ids ∷ []) old
  first_fails fails = (mid, inl fails)

  module _ (new : Held S) (first : Passes g row_ids old mid) where
    pub second_fails : Fails g tag_ids mid new → OneFails g (row_ids ∷ tag_ids ∷ []) old
    second_fails fails = (mid, inr (first, (new, inl fails)))

    pub both_pass : HasTables (state g old) → (r : Result Bool Error) → IfOk r (λ once. IsTrue once → Passes g tag_ids mid new) → IfOk r (λ sound. IsTrue sound → IsOver (state g old) (state g new))
    both_pass has (Ok once) passes = λ yes. let second = passes yes in is_tested g old mid new has first.rises second.rises second.outside
    both_pass has (Err e) passes = tt

    pub not_both : (r : Result Bool Error) → IfOk r (λ once. once ≡ false → Fails g tag_ids mid new) → IfOk r (λ sound. sound ≡ false → OneFails g (row_ids ∷ tag_ids ∷ []) old)
    not_both (Ok once) fails = λ no. second_fails (fails no)
    not_both (Err e) fails = tt

    pub not_second : (r : Result Bool Error) → IfErr r (λ e. IsRefusal e → Fails g tag_ids mid new) → IfErr r (λ e. IsRefusal e → OneFails g (row_ids ∷ tag_ids ∷ []) old)
    not_second (Ok once) fails = tt
    not_second (Err e) fails = λ refusal. second_fails (fails refusal)

-- ---- the rows of an answer

pub no_column : (row : Row) (n : ℤ) → length row ≤ 0 → column row 0 ≡ Int n → ⊥
no_column [] n short is = absurd cc
no_column (v ∷ more) n short is = absurd (omega arith)

-- what is left of the rows begins with one that is no number above the last
pub not_risen : (last : Option ℤ) (left more : List Row) (row : Row) → left ≡ row ∷ more → ((n : ℤ) → column row 0 ≡ Int n → IsAbove last n → ⊥) → RisesFrom last left → ⊥
not_risen last left more row is none rises = let first = subst (RisesFrom last) is rises in none first.0 first.1 first.2

pub not_above : (last : Option ℤ) (row : Row) (id m : ℤ) → column row 0 ≡ Int id → m ≡ id → (IsAbove last m → false ≡ true) → (n : ℤ) → column row 0 ≡ Int n → IsAbove last n → ⊥
not_above last row id m there same below n is above =
    let whole : Int id ≡ Int n = sym there ∙ is in
    let equal : id ≡ n = cc in
    true≢false (sym (below (subst (IsAbove last) (sym equal ∙ sym same) above)))

-- ---- a database is refused

pub from_err : {T : Type 0} (e : Error) → ◌≡◌ {A = Result T NoKeeper} (Err (no_keeper_of e)) (Err no_keeper.Refused) → IsRefusal e
from_err e is = cc

module _ {S : Type 0} (g : Ghosts S) (s : Held S) where
  pub no_store : (seen : Schema) → seen ≡ s.schema → ((table : StoreTable) → ¬ (IsMisshapen table seen)) → (s.schema ≢ two_tables) ⊎ (IsTrue s.in_transaction ⊎ OneFails g (row_ids ∷ tag_ids ∷ []) s) → IsNoStore g s
  no_store seen is shaped why = record { shaped = subst (λ (x : Schema). (table : StoreTable) → ¬ (IsMisshapen table x)) is shaped; why = why }

  pub not_made : s.schema ≡ no_tables → OneIsRefused g (begin ∷ make_rows ∷ make_tags ∷ commit ∷ []) s → IsNotToBe g s
  not_made none refused = record { bare = λ _. refused; other = λ some. absurd (some none) }

-- ---- the tables are made

module _ {S : Type 0} (g : Ghosts S) (sql : List ℕ) (more : List (List ℕ)) (old new : Held S) (survives : Survives (state g old) (state g new) (CommitsBy sql [] (state g old))) where
  pub refused_here : (e : Error) → (HasCleanDisk (state g new) → Executes sql [] (state g old) (state g new) (Err e)) → IsRefusal e → OneIsRefused g (sql ∷ more) old
  refused_here e executes refusal = (new, inl (e, record { executes = executes; survives = survives }, refusal))

  pub refused_later : (n : ℕ) → (HasCleanDisk (state g new) → Executes sql [] (state g old) (state g new) (Ok n)) → OneIsRefused g more new → OneIsRefused g (sql ∷ more) old
  refused_later n executes later = (new, inr (n, record { executes = executes; survives = survives }, later))
