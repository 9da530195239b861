-- What a query of what is kept tells: it runs in a transaction of its own, which is rolled back.
use Rattle.std.proofs.Common.{inl, inr, ◌≡◌, ◌⊎◌, ℕ, List, [], ◌∷◌, map, true, false, Option, Some, None, Ok, Err, Result, IsTrue, Vec, refl, sym, ap, subst, ◌∙◌, true≢false, arith}
use Rattle.std.specs.declared.alloc.Global.{Global}
use Rattle.sqlite.specs.Clock.{timed}
use Rattle.sqlite.specs.Effect.{Database}
use Rattle.sqlite.specs.Held.{Held, state}
use Rattle.sqlite.specs.Order.{Row, column}
use Rattle.sqlite.specs.State.{State, HasCleanDisk, IsUnchanged, Shown, ShowsRows, FailsToQuery, FailsToShow, IsTooLate}
use Rattle.sqlite.specs.Store.{Ghosts}
use Rattle.sqlite.specs.Tree.{Trees}
use Rattle.sqlite.specs.declared.error.Error.{Error}
use Rattle.sqlite.specs.declared.types.Value.TheVariants.{Text}
use Rattle.sqlite_schema.specs.declared.command.Returning.{Returning}
use Rattle.store_six.specs.Calls.{Passes, Nothing, KeepsKept}
use Rattle.store_six.specs.Tables.{AreAll, AreBeside}
use Rattle.table_laws.proofs.Shows.{shows_rows, shows_tags, shows_one}
use Rattle.table_laws.proofs.Turns.{IsRefused, not_run}
use Rattle.table_laws.specs.Moments.{told, Serves, ServesClean, Finds, Queries}
use Rattle.table_laws.specs.Schema.{all_rows, all_tags, one_row}
use Rattle.table_laws.specs.Stored.{text_of, bytes_of, shown_entry, cells_of, tags_of, tables_of, IsStore}

-- ---- a query in a transaction

pub shown_open : (sql : List ℕ) (params : Row) (old new : State) (rows : List Row) → Shown sql params old new rows → IsTrue old.is_open
unfolding Shown
shown_open sql params old new rows h = at h.0.returning h.2
  where
    at : (o : Option Returning) → ShowsRows old new sql h.0 (timed params h.0.formats h.1.now) rows o → IsTrue old.is_open
    at None it = it.3.0.was_open
    at (Some what) it = it.1.shown.was_open

query_refused : (sql : List ℕ) (params : Row) (old new : State) (e : Error) → FailsToQuery sql params old new e → IsRefused old new
unfolding FailsToQuery
query_refused sql params old new e (inl h) = not_run sql params old new e h
query_refused sql params old new e (inr h) = at h.0.returning h.2
  where
    at : (o : Option Returning) → FailsToShow old new sql h.0 (timed params h.0.formats h.1.now) e o → IsRefused old new
    at None it = inl it.3
    at (Some what) it = elim it [ inl misplaced ↦ inl misplaced.1 | inr failed ↦ inr failed.3 ]

-- ---- the transaction is rolled back

module _ {S : Type 0} (g : Ghosts S) (sql : List ℕ) (params : Row) (old new : Held S) (r : Result (Vec Row Global) Error) (q : Queries g sql params old new r) where
  abbrev begun : State
  begun = state g (record old { in_transaction = true })

  pub clean_mid : HasCleanDisk (state g new) → HasCleanDisk (state g q.mid)
  clean_mid clean = omega (arith, q.second.clean)

  pub clean_old : HasCleanDisk (state g new) → HasCleanDisk (state g old)
  clean_old clean = let mid = clean_mid clean in omega (arith, q.first.clean)

  module _ (mid : HasCleanDisk (state g new) → IsRefused begun (state g q.mid)) where
    -- what is kept is what was kept, and it is seen again
    abbrev pub IsBack : Type 0
    IsBack = IsTrue (state g old).is_open × ((state g new).now ≡ (state g old).committed) × ((state g new).committed ≡ (state g old).committed)

    pub back : HasCleanDisk (state g new) → IsTrue (state g new).is_open → IsBack
    back clean o =
        let undone = q.undone clean in
        let mid_open = undone.was_open o in
        let was = elim (mid clean) as (λ _. IsTrue (state g old).is_open × ((state g q.mid).committed ≡ (state g old).committed)) [
          | inl h ↦ (h.0.was_open, h.0.committed_is)
          | inr h ↦ (h.was_open mid_open, (h.undone mid_open).1)
        ] in
        (was.0, (undone.undone o).0 ∙ was.1, (undone.undone o).1 ∙ was.1)

    pub query_passes : Passes Nothing (told 0 (state g old)) (told 0 (state g new))
    query_passes = record {
      clean = clean_old;
      was_open = λ clean o. (back clean o).0;
      crash = λ clean t left. elim (q.second.crash clean left.0 left.1) [
        | inl mid_left ↦ elim (q.first.crash (clean_mid clean) left.0 mid_left) [ inl was ↦ inl (left.0, was, left.2) | inr none ↦ absurd none ]
        | inr none ↦ absurd none
      ];
      faults = omega arith;
    }

    pub query_keeps : HasCleanDisk (state g new) → KeepsKept (told 0 (state g old)) (told 0 (state g new))
    query_keeps clean o = ap (λ (d : Database). tables_of d.trees) (back clean o).2

    pub query_serves : ServesClean (state g old) → ServesClean (state g new)
    query_serves serves clean = let was = serves (clean_old clean) in record {
      inside = λ on. absurd (true≢false (sym on ∙ (q.undone clean).autocommit));
      now = λ o. let is = back clean o in subst IsStore (sym is.1) (was.committed is.0);
      committed = λ o. let is = back clean o in subst IsStore (sym is.2) (was.committed is.0);
      settled = λ o off. let is = back clean o in is.1 ∙ sym is.2;
    }

-- how the transaction stands before it is rolled back, where the query was refused
pub mid_refused : {S : Type 0} (g : Ghosts S) (sql : List ℕ) (params : Row) (old new : Held S) (e : Error) (q : Queries g sql params old new (Err e)) → HasCleanDisk (state g new)
    → IsRefused (state g (record old { in_transaction = true })) (state g q.mid)
mid_refused g sql params old new e q clean = elim (q.refused (clean_mid g sql params old new (Err e) q clean)) [
  | inl h ↦ query_refused sql params (state g (record old { in_transaction = true })) (state g q.mid) e h
  | inr late ↦ inl late.5
]

-- ---- the queries of a store

module _ {S : Type 0} (g : Ghosts S) (sql : List ℕ) (params : Row) (Wanted : Trees → List Row → Type 0)
    (law : (old new : State) (rows : List Row) → IsStore old.now → Shown sql params old new rows → Wanted old.now.trees rows × IsUnchanged old new)
    (old new : Held S) (off : old.in_transaction ≡ false) (serves : ServesClean (state g old)) where
  finds : (r : Result (Vec Row Global) Error) → Queries g sql params old new r → Finds (Wanted (state g old).committed.trees) (state g old) (state g new) r
  finds (Ok rows) q =
      let start : State = state g (record old { in_transaction = true }) in
      let shown = λ (clean : HasCleanDisk (state g new)). q.shown (clean_mid g sql params old new (Ok rows) q clean) in
      let was = λ (clean : HasCleanDisk (state g new)). serves (clean_old g sql params old new (Ok rows) q clean) in
      let opened = λ (clean : HasCleanDisk (state g new)). shown_open sql params start (state g q.mid) rows.items (shown clean) in
      let told_by = λ (clean : HasCleanDisk (state g new)). law start (state g q.mid) rows.items ((was clean).now (opened clean)) (shown clean) in
      let mid = λ (clean : HasCleanDisk (state g new)). inl (told_by clean).1 in
      record {
        serves = query_serves g sql params old new (Ok rows) q mid serves;
        passes = query_passes g sql params old new (Ok rows) q mid;
        kept = query_keeps g sql params old new (Ok rows) q mid;
        outside = λ clean. (q.undone clean).autocommit;
        ok = λ clean. (opened clean, subst (λ (d : Database). Wanted d.trees rows.items) ((was clean).settled (opened clean) off) (told_by clean).0);
      }
  finds (Err e) q =
      let mid = mid_refused g sql params old new e q in
      record {
        serves = query_serves g sql params old new (Err e) q mid serves;
        passes = query_passes g sql params old new (Err e) q mid;
        kept = query_keeps g sql params old new (Err e) q mid;
        outside = λ clean. (q.undone clean).autocommit;
        ok = λ clean. tt;
      }

module _ {S : Type 0} (g : Ghosts S) (old new : Held S) (off : old.in_transaction ≡ false) (serves : ServesClean (state g old)) (r : Result (Vec Row Global) Error) where
  pub finds_rows : Queries g all_rows [] old new r → Finds (λ rows. AreAll (cells_of (state g old).committed.trees) (map (shown_entry text_of) rows)) (state g old) (state g new) r
  finds_rows = finds g all_rows [] (λ db rows. AreAll (cells_of db) (map (shown_entry text_of) rows)) shows_rows old new off serves r

  pub finds_tags : Queries g all_tags [] old new r → Finds (λ rows. AreAll (tags_of (state g old).committed.trees) (map (shown_entry bytes_of) rows)) (state g old) (state g new) r
  finds_tags = finds g all_tags [] (λ db rows. AreAll (tags_of db) (map (shown_entry bytes_of) rows)) shows_tags old new off serves r

  pub finds_one : (key : List ℕ) → Queries g one_row (Text key ∷ []) old new r
      → Finds (λ rows. AreBeside key (cells_of (state g old).committed.trees) (map (λ x. text_of (column x 0)) rows)) (state g old) (state g new) r
  finds_one key = finds g one_row (Text key ∷ []) (λ db rows. AreBeside key (cells_of db) (map (λ x. text_of (column x 0)) rows)) (shows_one key) old new off serves r
