-- What calls that read a store come to for a keeper.
use Rattle.std.proofs.Common.{inl, inr, ◌≡◌, ◌⊎◌, List, [], ◌∷◌, Option, Some, None, Ok, Err, Result, IfOk, OnOk, IsErrOf, refl, sym, ap, subst, ◌∙◌, arith}
use Rattle.std.specs.List.{fold}
use Rattle.cacheability.specs.declared.tag.Tag.{Tag}
use Rattle.keeper_sqlite.proofs.Turns.{nothing_then}
use Rattle.keeper_sqlite.specs.Faults.{fault_of}
use Rattle.keeper_sqlite.specs.Found.{with_line, with_tag_line, AreRows, AreCounts, IsFilled, CannotFill, Because, Reads}
use Rattle.site_keeper.specs.declared.fault.KeeperFault.{KeeperFault}
use Rattle.site_keeper.specs.declared.fault.KeeperFault.TheVariants as keeper_fault
use Rattle.site_keeper.specs.declared.stored.Stored.{Stored}
use Rattle.store_six.specs.Calls.{Tells, Nothing, Rose, CountsFault, Reads as SixReads}
use Rattle.store_six.specs.Tables.{Entry, Entries}
use Rattle.store_six.specs.declared.fault.StoreFault.{StoreFault}
use Rattle.store_six.specs.declared.fault.StoreFault.TheVariants as store_fault

-- ---- lines in turn

pub no_rows : (lines : Entries) → fold with_line None lines ≡ None
no_rows [] = refl
no_rows (line ∷ lines) = no_rows lines

pub no_counts : (lines : Entries) → fold with_tag_line None lines ≡ None
no_counts [] = refl
no_counts (line ∷ lines) = no_counts lines

-- ---- one call

module _ {X Y : Type 0} (Shown : Y → Type 0) (Wanted : X → Type 0) (Unreadable : Type 0) (a b : Tells) where
  pub refused : (e : StoreFault) → SixReads Shown a b (Err e) → Reads Wanted Unreadable a b (Err (fault_of e))
  refused store_fault.Failed call = record { passes = call.passes; kept = call.kept; outside = call.outside; ok = λ c. tt; steady = tt; cause = inl call.cause }
  refused store_fault.OutOfMemory call = record { passes = call.passes; kept = call.kept; outside = call.outside; ok = λ c. tt; steady = tt; cause = call.cause }

  -- what was shown is taken, or it isn't readable
  pub taken : (y : Y) (r : Result X KeeperFault) → SixReads Shown a b (Ok y) → (Shown y → IfOk r Wanted) → (Shown y → r ≡ Err keeper_fault.Failed → Unreadable) → Reads Wanted Unreadable a b r
  taken y (Ok x) call told fault = record { passes = call.passes; kept = call.kept; outside = call.outside; ok = λ c. let them = call.ok c in (them.0, told them.1); steady = call.steady; cause = tt }
  taken y (Err keeper_fault.Failed) call told fault = record { passes = call.passes; kept = call.kept; outside = call.outside; ok = λ c. tt; steady = tt; cause = inr (λ c. let them = call.ok c in (them.0, fault them.1 refl)) }
  taken y (Err keeper_fault.OutOfMemory) call told fault = record { passes = call.passes; kept = call.kept; outside = call.outside; ok = λ c. tt; steady = tt; cause = call.steady }

-- ---- two calls

module _ (a b c : Tells) (before half after : Stored) where
  abbrev Filled : Type 0
  Filled = IsFilled a.kept before after

  pub both : {X Y : Type 0} (x : X) (r : Result Y KeeperFault) → (same : OnOk r ((after.rows ≡ half.rows) × (after.head ≡ half.head)))
      → Reads (λ (x : X). AreRows a.kept.cells before (Some half)) (AreRows a.kept.cells before None) a b (Ok x)
      → Reads (λ (y : Y). AreCounts b.kept.tags half.counts (Some after.counts)) (AreCounts b.kept.tags half.counts None) b c r → Reads (λ (y : Y). IsFilled a.kept before after) (CannotFill a.kept before) a c r
  both x (Ok y) same first second = record {
    passes = nothing_then a b c Nothing first.passes second.passes;
    kept = λ clean o. second.kept clean o ∙ first.kept (second.passes.clean clean) (second.passes.was_open clean o);
    outside = λ clean off. second.outside clean (first.outside (second.passes.clean clean) off);
    ok = λ clean.
        let one = first.ok (second.passes.clean clean) in
        let two = second.ok clean in
        let kept = first.kept (second.passes.clean clean) two.0 in
        (one.0, record { half = half; rows = one.1; counts = subst (λ t. AreCounts t.tags half.counts (Some after.counts)) kept two.1; same = same });
    steady = second.steady ∙ first.steady;
    cause = tt;
  }
  both x (Err keeper_fault.Failed) same first second = record {
    passes = nothing_then a b c Nothing first.passes second.passes;
    kept = λ clean o. second.kept clean o ∙ first.kept (second.passes.clean clean) (second.passes.was_open clean o);
    outside = λ clean off. second.outside clean (first.outside (second.passes.clean clean) off);
    ok = λ clean. tt;
    steady = tt;
    cause = elim second.cause [
      | inl rose ↦ inl (subst (λ f. Rose f c.faults) first.steady rose)
      | inr unreadable ↦ inr (λ clean.
          let one = first.ok (second.passes.clean clean) in
          let two = unreadable clean in
          let kept = first.kept (second.passes.clean clean) two.0 in
          (one.0, inr (half, one.1, subst (λ t. AreCounts t.tags half.counts None) kept two.1)))
    ];
  }
  both x (Err keeper_fault.OutOfMemory) same first second = record {
    passes = nothing_then a b c Nothing first.passes second.passes;
    kept = λ clean o. second.kept clean o ∙ first.kept (second.passes.clean clean) (second.passes.was_open clean o);
    outside = λ clean off. second.outside clean (first.outside (second.passes.clean clean) off);
    ok = λ clean. tt;
    steady = tt;
    cause = second.cause ∙ first.steady;
  }

-- the first call was refused
pub rows_refused : {X Y : Type 0} (a b : Tells) (before half after : Stored) (e : KeeperFault) → Reads (λ (x : X). AreRows a.kept.cells before (Some half)) (AreRows a.kept.cells before None) a b (Err e)
    → Reads (λ (y : Y). IsFilled a.kept before after) (CannotFill a.kept before) a b (Err e)
rows_refused a b before half after keeper_fault.Failed first = record {
  passes = first.passes;
  kept = first.kept;
  outside = first.outside;
  ok = λ c. tt;
  steady = tt;
  cause = elim first.cause [ inl rose ↦ inl rose | inr unreadable ↦ inr (λ clean. let it = unreadable clean in (it.0, inl it.1)) ];
}
rows_refused a b before half after keeper_fault.OutOfMemory first = record { passes = first.passes; kept = first.kept; outside = first.outside; ok = λ c. tt; steady = tt; cause = first.cause }

-- the same refusal of a call that was to give something else, and began with this
pub as_refused : {X Y : Type 0} (a b : Tells) (before now : Stored) (Wanted : X → Type 0) (Other : Y → Type 0) (e : KeeperFault) → Reads Wanted (CannotFill a.kept before) a b (Err e) → before ≡ now
    → Reads Other (CannotFill a.kept now) a b (Err e)
as_refused a b before now Wanted Other e call same =
    subst (λ (held : Stored). Reads Other (CannotFill a.kept held) a b (Err e)) same (record { passes = call.passes; kept = call.kept; outside = call.outside; ok = λ c. tt; steady = tt; cause = call.cause })
