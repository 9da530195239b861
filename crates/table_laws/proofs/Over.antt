-- A store over a connection: the tables that are there are tested, or they are made.
use Rattle.std.proofs.Common.{inl, inr, ◌≡◌, ◌⊎◌, ℕ, List, [], ◌∷◌, map, Bool, true, false, cond, Option, Some, None, Ok, Err, Vec, IsTrue, refl, sym, ap, subst, ◌∙◌, true≢false, arith, IsPermutation}
use Rattle.std.specs.declared.alloc.Global.{Global}
use Rattle.sqlite.proofs.Callers.{command_of, runs_as, reads_as}
use Rattle.sqlite.specs.Command.TheVariants.{Begin, Commit}
use Rattle.sqlite.specs.Effect.{Database, IsDatabase}
use Rattle.sqlite.specs.Held.{Held, state}
use Rattle.sqlite.specs.Listing.{understood}
use Rattle.sqlite.specs.Order.{Row, column}
use Rattle.sqlite.specs.Program.{overlay}
use Rattle.sqlite.specs.State.{State, HasCleanDisk, Executes, Survives, CommitsBy, IsUnchanged, Shown, Shows}
use Rattle.sqlite.specs.Store.{Ghosts}
use Rattle.sqlite.specs.Tree.{Trees}
use Rattle.sqlite.specs.declared.types.Value.TheVariants.{Null}
use Rattle.store_six.specs.Calls.{Passes, Nothing}
use Rattle.store_six.specs.Tables.{Tables}
use Rattle.table_laws.proofs.Ids.{have_ids}
use Rattle.table_laws.proofs.Picks.{shows_each}
use Rattle.table_laws.proofs.Queries.{clean_mid, clean_old, shown_open, back, query_passes}
use Rattle.table_laws.proofs.Shows.{unchanged}
use Rattle.table_laws.proofs.Texts.{id_alone, by_id, row_ids_is, row_ids_plain, tag_ids_is, tag_ids_plain, begin_is, begin_plain, commit_is, commit_plain, make_rows_is, make_tags_is}
use Rattle.table_laws.proofs.Turns.{IsRefused, was_clean, passes_on, is_end, commits_nothing, begin_commits_nothing, commit_commits}
use Rattle.table_laws.proofs.Writes.{IsHalf, IsMade, rows_are_made, tags_are_made}
use Rattle.table_laws.specs.Ids.{RisesFrom, AnswerRises}
use Rattle.table_laws.specs.Moments.{told, Serves, ServesClean, Queries, HasTables, IsOver, no_entries}
use Rattle.table_laws.specs.Schema.{row_ids, tag_ids, begin, commit, make_rows, make_tags, no_tables, one_table, two_tables}
use Rattle.table_laws.specs.Stored.{tables_of, HasIds, IsStore}

-- ---- calls in turn

pub then_passes : (a b c : State) (May : Tables → Type 0) → Passes May (told 0 a) (told 0 b) → Passes May (told 0 b) (told 0 c) → Passes May (told 0 a) (told 0 c)
then_passes a b c May first second = record {
  clean = λ clean. first.clean (second.clean clean);
  was_open = λ clean o. first.was_open (second.clean clean) (second.was_open clean o);
  crash = λ clean t left. elim (second.crash clean t left) [ inl mid ↦ first.crash (second.clean clean) t mid | inr commits ↦ inr commits ];
  faults = omega arith;
}

pub none_passes : (a b : State) (May : Tables → Type 0) → Passes Nothing (told 0 a) (told 0 b) → Passes May (told 0 a) (told 0 b)
none_passes a b May p = record {
  clean = p.clean;
  was_open = p.was_open;
  crash = λ clean t left. elim (p.crash clean t left) [ inl was ↦ inl was | inr none ↦ absurd none ];
  faults = p.faults;
}

-- ---- the rowids are tested

row_ids_shown : (old new : State) (rows : List Row) → old.now.schema ≡ two_tables → Shown row_ids [] old new rows → RisesFrom None rows → HasIds (old.now.trees 0) × IsUnchanged old new
row_ids_shown old new rows schema h rises =
    let got = reads_as row_ids [] old new two_tables schema _ row_ids_is row_ids_plain.0 row_ids_plain.1 rows h in (
      have_ids (old.now.trees 0) rows (shows_each 0 id_alone by_id (overlay old.now.trees []) [] rows (got.answer Null)) rises,
      unchanged row_ids [] old new schema row_ids_plain.0 rows h,
    )

tag_ids_shown : (old new : State) (rows : List Row) → old.now.schema ≡ two_tables → Shown tag_ids [] old new rows → RisesFrom None rows → HasIds (old.now.trees 2) × IsUnchanged old new
tag_ids_shown old new rows schema h rises =
    let got = reads_as tag_ids [] old new two_tables schema _ tag_ids_is tag_ids_plain.0 tag_ids_plain.1 rows h in (
      have_ids (old.now.trees 2) rows (shows_each 2 id_alone by_id (overlay old.now.trees []) [] rows (got.answer Null)) rises,
      unchanged tag_ids [] old new schema tag_ids_plain.0 rows h,
    )

module _ {S : Type 0} (g : Ghosts S) (sql : List ℕ) (P : Trees → Type 0)
    (law : (old new : State) (rows : List Row) → old.now.schema ≡ two_tables → Shown sql [] old new rows → RisesFrom None rows → P old.now.trees × IsUnchanged old new)
    (old new : Held S) (schema : HasCleanDisk (state g new) → IsTrue (state g old).is_open → old.schema ≡ two_tables) (rises : AnswerRises g sql old new) where
  abbrev start : State
  start = state g (record old { in_transaction = true })

  shown : HasCleanDisk (state g new) → P (state g old).now.trees × IsUnchanged start (state g rises.1.mid)
  shown clean =
      let it = rises.1.shown (clean_mid g sql [] old new (Ok rises.0) rises.1 clean) in
      law start (state g rises.1.mid) rises.0.items (schema clean (shown_open sql [] start (state g rises.1.mid) rises.0.items it)) it rises.2

  mid : HasCleanDisk (state g new) → IsRefused start (state g rises.1.mid)
  mid clean = inl (shown clean).1

  pub test_clean : HasCleanDisk (state g new) → HasCleanDisk (state g old)
  test_clean = clean_old g sql [] old new (Ok rises.0) rises.1

  pub test_passes : Passes Nothing (told 0 (state g old)) (told 0 (state g new))
  test_passes = query_passes g sql [] old new (Ok rises.0) rises.1 mid

  pub test_back : HasCleanDisk (state g new) → IsTrue (state g new).is_open → IsTrue (state g old).is_open × ((state g new).now ≡ (state g old).committed) × ((state g new).committed ≡ (state g old).committed)
  test_back = back g sql [] old new (Ok rises.0) rises.1 mid

  pub test_shows : HasCleanDisk (state g new) → P (state g old).now.trees
  test_shows clean = (shown clean).0

module _ {S : Type 0} (g : Ghosts S) (old mid new : Held S) (has : HasTables (state g old))
    (rows : AnswerRises g row_ids old mid) (tags : AnswerRises g tag_ids mid new) (off : new.in_transaction ≡ false) where
  abbrev first_back : HasCleanDisk (state g mid) → IsTrue (state g mid).is_open → IsTrue (state g old).is_open × ((state g mid).now ≡ (state g old).committed) × ((state g mid).committed ≡ (state g old).committed)
  first_back = test_back g row_ids (λ db. HasIds (db 0)) row_ids_shown old mid (λ clean o. has.schema) rows

  mid_now : HasCleanDisk (state g mid) → IsTrue (state g mid).is_open → (state g mid).now ≡ (state g old).now
  mid_now clean o = let b = first_back clean o in b.1 ∙ sym (has.settled b.0)

  mid_clean : HasCleanDisk (state g new) → HasCleanDisk (state g mid)
  mid_clean clean = omega (arith, tags.1.second.clean, tags.1.first.clean)

  mid_schema : HasCleanDisk (state g new) → IsTrue (state g mid).is_open → mid.schema ≡ two_tables
  mid_schema clean o = ap (λ (d : Database). d.schema) (mid_now (mid_clean clean) o) ∙ has.schema

  second_back : HasCleanDisk (state g new) → IsTrue (state g new).is_open → IsTrue (state g mid).is_open × ((state g new).now ≡ (state g mid).committed) × ((state g new).committed ≡ (state g mid).committed)
  second_back = test_back g tag_ids (λ db. HasIds (db 2)) tag_ids_shown mid new mid_schema tags

  -- what is seen and what is kept in the end is what was there
  ends : HasCleanDisk (state g new) → IsTrue (state g new).is_open → IsStore (state g old).now × ((state g new).now ≡ (state g old).now) × ((state g new).committed ≡ (state g old).now) × ((state g old).now ≡ (state g old).committed)
  ends clean o =
      let second = second_back clean o in
      let first = first_back (mid_clean clean) second.0 in
      let same = has.settled first.0 in
      let seen = mid_now (mid_clean clean) second.0 in (
        record {
          schema = has.schema;
          sound = (has.live first.0).0;
          cells = test_shows g row_ids (λ db. HasIds (db 0)) row_ids_shown old mid (λ clean o. has.schema) rows (mid_clean clean);
          tags = subst (λ (d : Database). HasIds (d.trees 2)) seen (test_shows g tag_ids (λ db. HasIds (db 2)) tag_ids_shown mid new mid_schema tags clean);
        },
        second.1 ∙ first.2 ∙ sym same,
        second.2 ∙ first.2 ∙ sym same,
        same,
      )

  pub is_tested : IsOver (state g old) (state g new)
  is_tested = record {
    serves = λ clean. record {
      inside = λ on. absurd (true≢false (sym on ∙ off));
      now = λ o. let e = ends clean o in subst IsStore (sym e.1) e.0;
      committed = λ o. let e = ends clean o in subst IsStore (sym e.2) e.0;
      settled = λ o out. let e = ends clean o in e.1 ∙ sym e.2;
    };
    passes = none_passes (state g old) (state g new) _ (then_passes (state g old) (state g mid) (state g new) Nothing
        (test_passes g row_ids (λ db. HasIds (db 0)) row_ids_shown old mid (λ clean o. has.schema) rows) (test_passes g tag_ids (λ db. HasIds (db 2)) tag_ids_shown mid new mid_schema tags));
    outside = λ clean. off;
    kept = λ clean o. let e = ends clean o in inl (has.schema, ap (λ (d : Database). tables_of d.trees) (e.2 ∙ e.3));
  }

-- ---- the tables are made, in one transaction

module _ (s0 s1 s2 s3 s4 : State) (schema : s0.now.schema ≡ no_tables) (n0 n1 n2 n3 : ℕ)
    (survives0 : Survives s0 s1 (CommitsBy begin [] s0)) (ran0 : HasCleanDisk s1 → Executes begin [] s0 s1 (Ok n0))
    (survives1 : Survives s1 s2 (CommitsBy make_rows [] s1)) (ran1 : HasCleanDisk s2 → Executes make_rows [] s1 s2 (Ok n1))
    (survives2 : Survives s2 s3 (CommitsBy make_tags [] s2)) (ran2 : HasCleanDisk s3 → Executes make_tags [] s2 s3 (Ok n2))
    (survives3 : Survives s3 s4 (CommitsBy commit [] s3)) (ran3 : HasCleanDisk s4 → Executes commit [] s3 s4 (Ok n3)) where
  began : HasCleanDisk s1 → Shows s0 s1 s0.now s0.committed true
  began clean = (runs_as begin [] s0 s1 s0.now.schema refl Begin (begin_is s0.now.schema) (begin_plain s0.now.schema) n0 (ran0 clean)).1

  schema1 : HasCleanDisk s1 → s1.now.schema ≡ no_tables
  schema1 clean = ap (λ (d : Database). d.schema) (began clean).now_is ∙ schema

  inside1 : HasCleanDisk s1 → s1.in_transaction ≡ true
  inside1 clean = (began clean).mode

  clean1 : HasCleanDisk s2 → HasCleanDisk s1
  clean1 = was_clean s1 s2 survives1

  rows_made : HasCleanDisk s2 → IsHalf s2.now × Shows s1 s2 s2.now (cond s1.in_transaction s1.committed s2.now) s1.in_transaction
  rows_made clean = rows_are_made s1 s2 n1 (schema1 (clean1 clean)) (ran1 clean)

  inside2 : HasCleanDisk s2 → s2.in_transaction ≡ true
  inside2 clean = (rows_made clean).1.mode ∙ inside1 (clean1 clean)

  clean2 : HasCleanDisk s3 → HasCleanDisk s2
  clean2 = was_clean s2 s3 survives2

  tags_made : HasCleanDisk s3 → IsMade s3.now × Shows s2 s3 s3.now (cond s2.in_transaction s2.committed s3.now) s2.in_transaction
  tags_made clean = tags_are_made s2 s3 n2 (rows_made (clean2 clean)).0 (ran2 clean)

  inside3 : HasCleanDisk s3 → s3.in_transaction ≡ true
  inside3 clean = (tags_made clean).1.mode ∙ inside2 (clean2 clean)

  clean3 : HasCleanDisk s4 → HasCleanDisk s3
  clean3 = was_clean s3 s4 survives3

  done : HasCleanDisk s4 → Shows s3 s4 s3.now s3.now false
  done clean = (runs_as commit [] s3 s4 s3.now.schema refl Commit (commit_is s3.now.schema) (commit_plain s3.now.schema) n3 (ran3 clean)).1

  pub is_made : IsOver s0 s4
  is_made = record {
    serves = λ clean. let d = done clean in let made = (tags_made (clean3 clean)).0 in record {
      inside = λ on. d.is_open;
      now = λ o. subst IsStore (sym d.now_is) made.store;
      committed = λ o. subst IsStore (sym d.committed_is) made.store;
      settled = λ o out. d.now_is ∙ sym d.committed_is;
    };
    passes = then_passes s0 s3 s4 _ (none_passes s0 s3 _ (then_passes s0 s2 s3 Nothing (then_passes s0 s1 s2 Nothing
        (passes_on s0 s1 survives0 (λ clean o. (began clean).was_open) (λ clean db. begin_commits_nothing s0 db))
        (passes_on s1 s2 survives1 (λ clean o. (rows_made clean).1.was_open) (λ clean db. commits_nothing s1 make_rows [] db (inside1 (clean1 clean))
        (ap (λ s. is_end (command_of (understood s make_rows))) (schema1 (clean1 clean)) ∙ ap is_end make_rows_is))))
        (passes_on s2 s3 survives2 (λ clean o. (tags_made clean).1.was_open) (λ clean db. commits_nothing s2 make_tags [] db (inside2 (clean2 clean))
        (ap (λ s. is_end (command_of (understood s make_tags))) (rows_made (clean2 clean)).0.schema ∙ ap is_end make_tags_is)))))
        (passes_on s3 s4 survives3 (λ clean o. (done clean).was_open) (λ clean db commits. ap tables_of (commit_commits s3 db (inside3 (clean3 clean)) commits) ∙ (tags_made (clean3 clean)).0.empty));
    outside = λ clean. (done clean).mode;
    kept = λ clean o. inr (schema, ap (λ (d : Database). tables_of d.trees) (done clean).committed_is ∙ (tags_made (clean3 clean)).0.empty);
  }
