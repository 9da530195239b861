-- What the statements of a transaction do to what a connection tells.
use Rattle.std.proofs.Common.{inl, inr, ◌≡◌, ◌⊎◌, ◌≤◌, ℕ, List, length, [], ◌∷◌, Bool, true, false, cond, Option, Some, None, Ok, Err, Result, IsTrue, refl, sym, ap, subst, ◌∙◌, true≢false, arith}
use Rattle.sqlite.proofs.Callers.{IsPlain, command_of, runs_as}
use Rattle.sqlite.specs.Clock.{timed}
use Rattle.sqlite.specs.Command.{Command}
use Rattle.sqlite.specs.Command.TheVariants.{Begin, Commit, Rollback, Release}
use Rattle.sqlite.specs.Effect.{Database}
use Rattle.sqlite.specs.Listing.{understood}
use Rattle.sqlite.specs.Order.{Row}
use Rattle.sqlite.specs.State.{State, HasCleanDisk, Executes, ExecutesIn, IsNotRun, IsNoStatement, IsMisplaced, RunsAlone, IsUnchanged, IsRolledBack, Shows, Survives, CommitsBy, shows_rows}
use Rattle.sqlite.specs.Tree.{Trees}
use Rattle.sqlite.specs.declared.error.Error.{Error}
use Rattle.sqlite_resolve.specs.declared.compiled.Compiled.{Compiled}
use Rattle.store_six.specs.Calls.{Passes, Nothing, Begins, Changes, Commits, KeepsKept, StaysOutside}
use Rattle.store_six.specs.Tables.{Tables}
use Rattle.table_laws.proofs.Texts.{begin_is, begin_plain, commit_is, commit_plain, rollback_is, rollback_plain, IsAlone, rollback_alone}
use Rattle.table_laws.proofs.Writes.{Wrote}
use Rattle.table_laws.specs.Moments.{told, Serves, ServesClean, Starts, Alters, Keeps, Drops}
use Rattle.table_laws.specs.Schema.{two_tables, begin, commit, rollback}
use Rattle.table_laws.specs.Stored.{tables_of, IsStore}

-- ---- a statement that is refused changes nothing, or the transaction is undone

abbrev pub IsRefused : State → State → Type 0
IsRefused old new = IsUnchanged old new ⊎ IsRolledBack old new

pub not_run : (sql : List ℕ) (params : Row) (old new : State) (e : Error) → IsNotRun old new sql params e → IsRefused old new
unfolding IsNotRun
not_run sql params old new e (inl h) = inl h.1
not_run sql params old new e (inr h) = inr h.3

pub is_refused : (sql : List ℕ) (params : Row) (old new : State) (e : Error) → Executes sql params old new (Err e) → IsRefused old new
unfolding ExecutesIn
is_refused sql params old new e (inl h) = not_run sql params old new e h
is_refused sql params old new e (inr h) = at (shows_rows false h.0) refl
  where
    at : (b : Bool) → shows_rows false h.0 ≡ b → IsRefused old new
    at true is = inl (rw is at h.2).1
    at false is = elim (rw is at h.2) [ inl misplaced ↦ inl misplaced.1 | inr failed ↦ inr failed.3 ]

module _ (old new : State) where
  pub refused_outside : IsRefused old new → StaysOutside (told 0 old) (told 0 new)
  refused_outside (inl h) off = h.0.mode ∙ off
  refused_outside (inr h) off = h.autocommit

  pub refused_open : IsRefused old new → IsTrue new.is_open → IsTrue old.is_open
  refused_open (inl h) open_now = h.0.was_open
  refused_open (inr h) open_now = h.was_open open_now

  pub tables_stay : new.committed ≡ old.committed → tables_of new.committed.trees ≡ tables_of old.committed.trees
  tables_stay same = ap (λ (d : Database). tables_of d.trees) same

  pub refused_keeps : IsRefused old new → KeepsKept (told 0 old) (told 0 new)
  refused_keeps (inl h) open_now = tables_stay h.0.committed_is
  refused_keeps (inr h) open_now = tables_stay (h.undone open_now).1

  pub refused_serves : IsRefused old new → Serves old → Serves new
  refused_serves (inl h) was = record {
    inside = λ on. h.0.is_open;
    now = λ o. subst IsStore (sym h.0.now_is) (was.now h.0.was_open);
    committed = λ o. subst IsStore (sym h.0.committed_is) (was.committed h.0.was_open);
    settled = λ o off. h.0.now_is ∙ was.settled h.0.was_open (sym h.0.mode ∙ off) ∙ sym h.0.committed_is;
  }
  refused_serves (inr h) was = record {
    inside = λ on. absurd (true≢false (sym on ∙ h.autocommit));
    now = λ o. subst IsStore (sym (h.undone o).0) (was.committed (h.was_open o));
    committed = λ o. subst IsStore (sym (h.undone o).1) (was.committed (h.was_open o));
    settled = λ o off. (h.undone o).0 ∙ sym (h.undone o).1;
  }

  pub was_clean : {P : Trees → Type 0} → Survives old new P → HasCleanDisk new → HasCleanDisk old
  was_clean survives clean = omega (arith, survives.clean)

  -- what a call passes on, where it may commit these trees
  pub passes_on : {P : Trees → Type 0} {May : Tables → Type 0} → Survives old new P → (HasCleanDisk new → IsTrue new.is_open → IsTrue old.is_open) → (HasCleanDisk new → (db : Trees) → P db → May (tables_of db))
      → Passes May (told 0 old) (told 0 new)
  passes_on {P} {May} survives opened may = record {
    clean = was_clean survives;
    was_open = opened;
    crash = λ clean t left. elim (survives.crash clean left.0 left.1) [
      | inl was ↦ inl (left.0, was, left.2)
      | inr commits ↦ inr (subst May (sym left.2) (may clean left.0 commits))
    ];
    faults = omega arith;
  }

-- ---- what a statement may commit

abbrev pub is_end : Command → Bool
is_end Commit = true
is_end (Release name) = true
is_end _ = false

-- inside a transaction a statement that doesn't end it commits nothing
pub commits_nothing : (old : State) (sql : List ℕ) (params : Row) (db : Trees) → old.in_transaction ≡ true → is_end (command_of (understood old.now.schema sql)) ≡ false → CommitsBy sql params old db → ⊥
unfolding CommitsBy
commits_nothing old sql params db inside goes_on h =
    let known : is_end h.0.command ≡ false = ap (λ u. is_end (command_of u)) (sym h.1.is) ∙ goes_on in
    elim h.2 [
      | inl ends ↦ elim ends.0 [
        | inl is ↦ absurd (true≢false (sym (ap is_end is) ∙ known))
        | inr is ↦ absurd (true≢false (sym (ap is_end is.2) ∙ known))
      ]
      | inr writes ↦ absurd (true≢false (sym inside ∙ writes.0))
    ]

pub begin_commits_nothing : (old : State) (db : Trees) → CommitsBy begin [] old db → ⊥
unfolding CommitsBy
begin_commits_nothing old db h =
    let plain = subst IsPlain h.1.is (begin_plain old.now.schema) in
    let known : h.0.command ≡ Begin = ap command_of (sym h.1.is) ∙ begin_is old.now.schema in
    elim h.2 [
      | inl ends ↦ elim ends.0 [
        | inl is ↦ absurd (true≢false (sym (ap is_end is) ∙ ap is_end known))
        | inr is ↦ absurd (true≢false (sym (ap is_end is.2) ∙ ap is_end known))
      ]
      | inr writes ↦ absurd (let does = rw (plain.0, known) at writes.3 in let is = does in cc)
    ]

pub commit_commits : (old : State) (db : Trees) → old.in_transaction ≡ true → CommitsBy commit [] old db → db ≡ old.now.trees
unfolding CommitsBy
commit_commits old db inside h = elim h.2 [ inl ends ↦ ends.1 | inr writes ↦ absurd (true≢false (sym inside ∙ writes.0)) ]

-- ---- a statement of a transaction, by what it does where it isn't refused

module _ (sql : List ℕ) (params : Row) (Change : Tables → Tables → Type 0)
    (law : (old new : State) (count : ℕ) → IsStore old.now → Executes sql params old new (Ok count) → Wrote Change old new)
    (goes_on : is_end (command_of (understood two_tables sql)) ≡ false)
    (old new : State) (inside : old.in_transaction ≡ true) (serves : ServesClean old) (survives : Survives old new (CommitsBy sql params old)) where
  served : HasCleanDisk new → Serves old
  served clean = serves (was_clean old new survives clean)

  store : HasCleanDisk new → IsStore old.now
  store clean = (served clean).now ((served clean).inside inside)

  passes : Passes Nothing (told 0 old) (told 0 new)
  passes = passes_on old new survives (λ clean o. (served clean).inside inside)
      (λ clean db commits. commits_nothing old sql params db inside (ap (λ s. is_end (command_of (understood s sql))) (store clean).schema ∙ goes_on) commits)

  pub alters : (r : Result ℕ Error) → (HasCleanDisk new → Executes sql params old new r) → Alters Change old new r
  alters (Ok count) ran =
      let wrote = λ (clean : HasCleanDisk new). law old new count (store clean) (ran clean) in
      let kept = λ (clean : HasCleanDisk new). (wrote clean).shown.committed_is ∙ ap (λ b. cond b old.committed new.now) inside in
      record {
        serves = λ clean. record {
          inside = λ on. (wrote clean).shown.is_open;
          now = λ o. (wrote clean).store;
          committed = λ o. subst IsStore (sym (kept clean)) ((served clean).committed (wrote clean).shown.was_open);
          settled = λ o off. absurd (true≢false (sym ((wrote clean).shown.mode ∙ inside) ∙ off));
        };
        passes = passes;
        ok = λ clean. record {
          was_open = (wrote clean).shown.was_open;
          is_open = (wrote clean).shown.is_open;
          inside = (wrote clean).shown.mode ∙ inside;
          kept = tables_stay old new (kept clean);
          seen = (wrote clean).change;
        };
        err = λ clean. tt;
        outside = λ clean. tt;
      }
  alters (Err e) ran = record {
    serves = λ clean. refused_serves old new (is_refused sql params old new e (ran clean)) (served clean);
    passes = passes;
    ok = λ clean. tt;
    err = λ clean. refused_keeps old new (is_refused sql params old new e (ran clean));
    outside = λ clean. refused_outside old new (is_refused sql params old new e (ran clean));
  }

-- ---- the begin

module _ (old new : State) (serves : ServesClean old) (survives : Survives old new (CommitsBy begin [] old)) where
  pub begins : (r : Result ℕ Error) → (HasCleanDisk new → Executes begin [] old new r) → Starts old new r
  begins (Ok count) ran =
      let begun = λ (clean : HasCleanDisk new). runs_as begin [] old new old.now.schema refl Begin (begin_is old.now.schema) (begin_plain old.now.schema) count (ran clean) in
      let was = λ (clean : HasCleanDisk new). serves (was_clean old new survives clean) in
      record {
        serves = λ clean. let b = (begun clean).1 in record {
          inside = λ on. b.is_open;
          now = λ o. subst IsStore (sym b.now_is) ((was clean).now b.was_open);
          committed = λ o. subst IsStore (sym b.committed_is) ((was clean).committed b.was_open);
          settled = λ o off. absurd (true≢false (sym b.mode ∙ off));
        };
        passes = passes_on old new survives (λ clean o. (begun clean).1.was_open) (λ clean db. begin_commits_nothing old db);
        ok = λ clean. let b = (begun clean).1 in record {
          was_open = b.was_open;
          is_open = b.is_open;
          inside = b.mode;
          kept = tables_stay old new b.committed_is;
          seen = ap (λ (d : Database). tables_of d.trees) (b.now_is ∙ (was clean).settled b.was_open (begun clean).0);
        };
        err = λ clean. tt;
        outside = λ clean. tt;
      }
  begins (Err e) ran = record {
    serves = λ clean. refused_serves old new (is_refused begin [] old new e (ran clean)) (serves (was_clean old new survives clean));
    passes = passes_on old new survives (λ clean. refused_open old new (is_refused begin [] old new e (ran clean))) (λ clean db. begin_commits_nothing old db);
    ok = λ clean. tt;
    err = λ clean. refused_keeps old new (is_refused begin [] old new e (ran clean));
    outside = λ clean. refused_outside old new (is_refused begin [] old new e (ran clean));
  }

-- ---- the commit

module _ (old new : State) (inside : old.in_transaction ≡ true) (serves : ServesClean old) (survives : Survives old new (CommitsBy commit [] old)) where
  may : HasCleanDisk new → (db : Trees) → CommitsBy commit [] old db → tables_of db ≡ tables_of old.now.trees
  may clean db commits = ap tables_of (commit_commits old db inside commits)

  pub keeps : (r : Result ℕ Error) → (HasCleanDisk new → Executes commit [] old new r) → Keeps old new r
  keeps (Ok count) ran =
      let done = λ (clean : HasCleanDisk new). (runs_as commit [] old new old.now.schema refl Commit (commit_is old.now.schema) (commit_plain old.now.schema) count (ran clean)).1 in
      let store = λ (clean : HasCleanDisk new). let was = serves (was_clean old new survives clean) in was.now (was.inside inside) in
      record {
        serves = λ clean. let d = done clean in record {
          inside = λ on. d.is_open;
          now = λ o. subst IsStore (sym d.now_is) (store clean);
          committed = λ o. subst IsStore (sym d.committed_is) (store clean);
          settled = λ o off. d.now_is ∙ sym d.committed_is;
        };
        passes = passes_on old new survives (λ clean o. (done clean).was_open) may;
        ok = λ clean. let d = done clean in record { was_open = d.was_open; is_open = d.is_open; inside = d.mode; kept = ap (λ (b : Database). tables_of b.trees) d.committed_is };
        err = λ clean. tt;
        outside = λ clean. tt;
      }
  keeps (Err e) ran = record {
    serves = λ clean. refused_serves old new (is_refused commit [] old new e (ran clean)) (serves (was_clean old new survives clean));
    passes = passes_on old new survives (λ clean. refused_open old new (is_refused commit [] old new e (ran clean))) may;
    ok = λ clean. tt;
    err = λ clean. refused_keeps old new (is_refused commit [] old new e (ran clean));
    outside = λ clean. refused_outside old new (is_refused commit [] old new e (ran clean));
  }

-- ---- the rollback

no_failure : (s : State) (sql : List ℕ) (e : Error) → IsAlone sql (understood s.now.schema sql) → IsNoStatement s sql [] e → ⊥
no_failure s sql e alone (inl h) = subst (IsAlone sql) h.1 alone
no_failure s sql e alone (inr h) = let it = subst (IsAlone sql) h.1 alone in elim h.2 [
  | inl more ↦ more.0 it.0
  | inr other ↦ elim other [ inl given ↦ given.0 (ap length (sym it.1)) | inr clock ↦ clock.0 it.2 ]
]

not_misplaced : (s : State) (e : Error) → s.in_transaction ≡ true → IsMisplaced s Rollback e → ⊥
not_misplaced s e inside (inl h) = elim h.1 [
  | inl begun ↦ let is = begun.0 in cc
  | inr none ↦ true≢false (sym inside ∙ none.1)
]
not_misplaced s e inside (inr h) = elim h.2 [ inl is ↦ cc | inr is ↦ cc ]

module _ (old new : State) (e : Error) (inside : old.in_transaction ≡ true) where
  rollback_fails : (c : Compiled) (params : Row) → c.command ≡ Rollback → c.returning ≡ None → RunsAlone false old new rollback c params (Err e) → new.in_transaction ≡ false
  rollback_fails c params is plain h = elim (rw (is, plain) at h) [
    | inl refused ↦ absurd (elim refused.0 [ inl misplaced ↦ not_misplaced old e inside misplaced | inr writes ↦ elim writes.0 [ inl none ↦ none | inr none ↦ true≢false (sym none) ] ])
    | inr failed ↦ failed.3.autocommit
  ]

  rollback_ends : Executes rollback [] old new (Err e) → new.in_transaction ≡ false
  unfolding ExecutesIn IsNotRun
  rollback_ends (inl (inl none)) = absurd (no_failure old rollback e (rollback_alone old.now.schema) none.0)
  rollback_ends (inl (inr failed)) = failed.3.autocommit
  rollback_ends (inr h) =
      rollback_fails h.0 (timed [] h.0.formats h.1.now) (ap command_of (sym h.1.is) ∙ rollback_is old.now.schema) (subst IsPlain h.1.is (rollback_plain old.now.schema)).0 h.2

module _ (old new : State) (inside : old.in_transaction ≡ true) (serves : ServesClean old) (survives : Survives old new (CommitsBy rollback [] old)) where
  undone : (r : Result ℕ Error) → (HasCleanDisk new → Executes rollback [] old new r) → HasCleanDisk new → IsRefused old new
  undone (Ok count) ran clean = inr (runs_as rollback [] old new old.now.schema refl Rollback (rollback_is old.now.schema) (rollback_plain old.now.schema) count (ran clean)).1
  undone (Err e) ran clean = is_refused rollback [] old new e (ran clean)

  -- in a transaction it is refused only where the store fails, which ends the transaction
  ended : (r : Result ℕ Error) → (HasCleanDisk new → Executes rollback [] old new r) → HasCleanDisk new → new.in_transaction ≡ false
  ended (Ok count) ran clean = (runs_as rollback [] old new old.now.schema refl Rollback (rollback_is old.now.schema) (rollback_plain old.now.schema) count (ran clean)).1.autocommit
  ended (Err e) ran clean = rollback_ends old new e inside (ran clean)

  pub drops : (r : Result ℕ Error) → (HasCleanDisk new → Executes rollback [] old new r) → Drops old new
  drops r ran = record {
    serves = λ clean. refused_serves old new (undone r ran clean) (serves (was_clean old new survives clean));
    passes = passes_on old new survives (λ clean. refused_open old new (undone r ran clean)) (λ clean db. commits_nothing old rollback [] db inside (ap is_end (rollback_is old.now.schema)));
    kept = λ clean. refused_keeps old new (undone r ran clean);
    outside = ended r ran;
  }

-- where no transaction is open there is nothing to roll back
pub drops_none : (s : State) → s.in_transaction ≡ false → ServesClean s → Drops s s
drops_none s off serves = record {
  serves = serves;
  passes = record { clean = λ c. c; was_open = λ c o. o; crash = λ c t left. inl left; faults = omega arith };
  kept = λ c o. refl;
  outside = λ c. off;
}
