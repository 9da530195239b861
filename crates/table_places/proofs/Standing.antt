-- What a database stands for once a keeper that tells was made over it, and after its calls.
use Rattle.std.proofs.Common.{◌≡◌, ◌∙◌, inl, inr, ℕ, List, [], ◌∷◌, ◌++◌, Ok, Err, Result, sym, ap, subst}
use Rattle.std.specs.Prelude.{IsTrue}
use Rattle.indexed_rows.specs.Rows.{AreValidRows}
use Rattle.keeper_sqlite.proofs.Standing.{stand_for_one}
use Rattle.keeper_sqlite.specs.Found.{nothing_held}
use Rattle.keeper_sqlite.specs.Standing.{StandFor}
use Rattle.keeper_sqlite.specs.Telling.{Applies, BeginsOver, Loads, Reads}
use Rattle.site_keeper.proofs.Keeping.{held_more}
use Rattle.site_keeper.specs.Batch.{Batch}
use Rattle.site_keeper.specs.Keeper.{Kept, held_of, with_batch}
use Rattle.site_keeper.specs.declared.fault.KeeperFault.{KeeperFault}
use Rattle.site_keeper.specs.declared.stored.Stored.{Stored}
use Rattle.sqlite.specs.State.{State, HasCleanDisk}
use Rattle.store_six.specs.Tables.{Tables}
use Rattle.table_laws.specs.Moments.{may_leave, told}
use Rattle.table_laws.specs.Stored.{tables_of}
use Rattle.table_places.specs.Telling.{BeganOver, HoldsIfClean, IsTelling, StandsIfClean}

-- ---- as a keeper is made

module _ (was first now : State) (m n : ℕ) (begins : BeginsOver was (told m first)) (held : Stored) (loads : Loads (told m first) (told n now) (Ok held)) where
  pub stands_at_first : StandsIfClean now held
  stands_at_first clean usable =
      record {
        tables = subst (λ (t : Tables). StandFor t held) (sym (loads.stays clean usable)) (loads.ok clean);
        outside = loads.outside clean (begins.outside (loads.passes.clean clean));
      }

  pub began_over : BeganOver was now held
  began_over clean usable = elim (begins.kept (loads.passes.clean clean) (loads.passes.was_open clean usable)) [
    | inl there ↦ inl (there.0, subst (λ (t : Tables). StandFor t held) there.1 (loads.ok clean))
    | inr made ↦ inr (made.0, stand_for_one (told m first).kept held nothing_held (loads.ok clean) made.1)
  ]

-- ---- after a call that reads

pub stands_after_read : {X : Type 0} (Wanted : X → Type 0) (old new : State) (m n : ℕ) (r : Result X KeeperFault) (held : Stored) → Reads Wanted (told m old) (told n new) r
    → StandsIfClean old held → StandsIfClean new held
stands_after_read Wanted old new m n r held reads stood clean usable =
    let before = stood (reads.passes.clean clean) (reads.passes.was_open clean usable) in
    record {
      tables = subst (λ (t : Tables). StandFor t held) (sym (reads.stays clean usable)) before.tables;
      outside = reads.outside clean before.outside;
    }

-- ---- after a batch

module _ {X : Type 0} (batch : Batch) (old new : State) (m n : ℕ) (held : Stored) (stood : StandsIfClean old held) where
  pub stands_with : (x : X) → Applies batch (told m old) (told n new) (Ok x) → AreValidRows (with_batch held batch).rows → StandsIfClean new (with_batch held batch)
  stands_with x applies right clean usable =
      let before = stood (applies.passes.clean clean) (applies.passes.was_open clean usable) in
      record { tables = (applies.ok clean).stands held before.tables right; outside = applies.outside clean before.outside }

  pub stands_as_before : (e : KeeperFault) → Applies {X = X} batch (told m old) (told n new) (Err e) → StandsIfClean new held
  stands_as_before e applies clean usable =
      let before = stood (applies.passes.clean clean) (applies.passes.was_open clean usable) in
      record { tables = subst (λ (t : Tables). StandFor t held) (sym (applies.err clean usable)) before.tables; outside = applies.outside clean before.outside }

-- one batch more is told, and kept
pub still_telling : {X : Type 0} (old new : State) (m n : ℕ) (batch copy : Batch) (kept : Kept) (held held' : Stored) (before items : List Batch) (x : X) → IsTelling old kept held → held' ≡ with_batch held batch
    → AreValidRows (with_batch (held_of kept) batch).rows → copy ≡ batch → before ≡ kept.batches → items ≡ before ++ copy ∷ [] → Applies {X = X} batch (told m old) (told n new) (Ok x) → IsTelling new (record kept { batches = items }) held'
still_telling old new m n batch copy kept held held' before items x telling makes right same first more applies =
    let all : items ≡ kept.batches ++ batch ∷ [] = more ∙ ap (λ (bs : List Batch). bs ++ copy ∷ []) first ∙ ap (λ (b : Batch). kept.batches ++ b ∷ []) same in
    let is : with_batch (held_of kept) batch ≡ held_of (record kept { batches = items }) = sym (held_more kept batch) ∙ ap (λ (bs : List Batch). held_of (record kept { batches = bs })) (sym all) in
    let made : held' ≡ with_batch (held_of kept) batch = makes ∙ ap (λ (s : Stored). with_batch s batch) telling.held_is in
    record {
      held_is = made ∙ is;
      right = subst (λ (s : Stored). AreValidRows s.rows) (sym made) right;
      stands = subst (StandsIfClean new) is (stands_with batch old new m n (held_of kept) telling.stands x applies right);
    }

-- ---- after a crash

pub holds_by : (s : State) (held : Stored) → (HasCleanDisk s → IsTrue s.is_open → (t : Tables) → may_leave s t → t ≡ tables_of s.committed.trees) → StandsIfClean s held → HoldsIfClean s held
holds_by s held settled stands clean usable =
    let now = stands clean usable in
    record {
      tables = now.tables;
      outside = now.outside;
      crash = λ t left. subst (λ (t : Tables). StandFor t held) (sym (settled clean usable t left)) now.tables;
    }
