-- What the calls of a keeper over a database say of the site that its tables stand for.
use Rattle.std.proofs.Common.{◌≡◌, ◌⊎◌, inl, inr, ℕ, Some, None, Ok, Err, Result, refl, sym, ap, subst, ◌∙◌}
use Rattle.keeper_sqlite.proofs.Standing.{new_stand_for_none, batches_stand, stand_for_what_is_read, number_is_read}
use Rattle.keeper_sqlite.specs.Batches.{KeepsBatch, IsKept, Keeps}
use Rattle.keeper_sqlite.specs.Faults.{fault_of}
use Rattle.keeper_sqlite.specs.Found.{AreReadAs, AreUnreadable, HaveHead, Because, nothing_held, Reads as FoundReads}
use Rattle.keeper_sqlite.specs.Standing.{StandFor, StandForNothing, StandWith}
use Rattle.keeper_sqlite.specs.Telling.{FailedToRead, Reads, Loads, TellsHead, IsDone, Applies, BeginsOver}
use Rattle.site_keeper.specs.Batch.{Batch}
use Rattle.site_keeper.specs.declared.fault.KeeperFault.{KeeperFault}
use Rattle.site_keeper.specs.declared.fault.KeeperFault.TheVariants as keeper_fault
use Rattle.site_keeper.specs.declared.stored.Stored.{Stored}
use Rattle.sqlite.specs.State.{State}
use Rattle.store_six.specs.Calls.{Tells, Passes}
use Rattle.store_six.specs.Tables.{Tables}
use Rattle.store_six.specs.declared.fault.StoreFault.{StoreFault}
use Rattle.store_six.specs.declared.fault.StoreFault.TheVariants as store_fault
use Rattle.table_laws.specs.Moments.{told, IsOver, no_entries}

-- ---- a call that reads

module _ {X : Type 0} (Shown Wanted : X → Type 0) (Unreadable : Type 0) (a b : Tells) (shows : (x : X) → Shown x → Wanted x) (nothing : Unreadable → StandForNothing a.kept) where
  failed_to_read : Because keeper_fault.Failed Unreadable a b → FailedToRead a b
  failed_to_read because = elim because [ inl rose ↦ inl rose | inr unreadable ↦ inr (λ clean. nothing (unreadable clean).1) ]

  pub reads_by : (r : Result X KeeperFault) → FoundReads Shown Unreadable a b r → Reads Wanted a b r
  reads_by (Ok x) call = record { passes = call.passes; stays = call.kept; outside = call.outside; ok = λ clean. shows x (call.ok clean).1; failed = λ is. absurd cc }
  reads_by (Err keeper_fault.Failed) call = record { passes = call.passes; stays = call.kept; outside = call.outside; ok = λ clean. tt; failed = λ is. failed_to_read call.cause }
  reads_by (Err keeper_fault.OutOfMemory) call = record { passes = call.passes; stays = call.kept; outside = call.outside; ok = λ clean. tt; failed = λ is. absurd cc }

pub loads_by : (a b : Tells) (r : Result Stored KeeperFault) → FoundReads (AreReadAs a.kept) (AreUnreadable a.kept) a b r → Loads a b r
loads_by a b r call =
    reads_by (AreReadAs a.kept) (StandFor a.kept) (AreUnreadable a.kept) a b (λ held read. (stand_for_what_is_read a.kept).0 held read) (stand_for_what_is_read a.kept).1 r call

pub tells_head_by : (a b : Tells) (r : Result ℕ KeeperFault) → FoundReads (λ n. HaveHead a.kept (Some n)) (HaveHead a.kept None) a b r → TellsHead a b r
tells_head_by a b r call =
    reads_by (λ n. HaveHead a.kept (Some n)) (λ n. (held : Stored) → StandFor a.kept held → n ≡ held.head) (HaveHead a.kept None) a b
    (λ n read held stands. (number_is_read a.kept held stands).0 n read) (λ read held stands. (number_is_read a.kept held stands).1 read) r call

-- ---- a batch

passes_by : (batch : Batch) (a b : Tells) → Passes (KeepsBatch batch a.kept) a b → Passes (StandWith batch a.kept) a b
passes_by batch a b passes = record {
  clean = passes.clean;
  was_open = passes.was_open;
  crash = λ clean t left. elim (passes.crash clean t left) [ inl was ↦ inl was | inr kept ↦ inr (batches_stand batch a.kept t kept) ];
  faults = passes.faults;
}

module _ {X : Type 0} (batch : Batch) (a b : Tells) (settled : b.clean → b.is_open → (t : Tables) → b.leaves t → t ≡ b.kept) where
  pub applies_ok : (x : X) → Keeps batch a b (Ok x) → Applies {X = X} batch a b (Ok x)
  applies_ok x call = record {
    passes = passes_by batch a b call.passes;
    ok = λ clean.
        let done = call.ok clean in
        record { is_open = done.is_open; stands = batches_stand batch a.kept b.kept done.kept; crash = settled clean done.is_open };
    err = λ clean. tt;
    outside = call.outside;
    failed = λ is. absurd cc;
  }

  pub applies_err : (e : StoreFault) → Keeps {X = X} batch a b (Err e) → Applies {X = X} batch a b (Err (fault_of e))
  applies_err store_fault.Failed call = record { passes = passes_by batch a b call.passes; ok = λ clean. tt; err = call.err; outside = call.outside; failed = λ is. call.cause }
  applies_err store_fault.OutOfMemory call = record { passes = passes_by batch a b call.passes; ok = λ clean. tt; err = call.err; outside = call.outside; failed = λ is. absurd cc }

-- ---- a new keeper

pub begins_over : (old new : State) (faults : ℕ) → IsOver old new → BeginsOver old (told faults new)
begins_over old new faults over = record {
  outside = over.outside;
  crash = λ clean t left. elim (over.passes.crash clean t left) [
    | inl was ↦ inl was
    | inr none ↦ inr (subst (λ (x : Tables). StandFor x nothing_held) (sym none) new_stand_for_none)
  ];
  kept = λ clean usable. elim (over.kept clean usable) [
    | inl there ↦ inl there
    | inr made ↦ inr (made.0, subst (λ (x : Tables). StandFor x nothing_held) (sym made.1) new_stand_for_none)
  ];
}
