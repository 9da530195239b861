-- Calls of a store one after the other, in a transaction.
use Rattle.std.proofs.Common.{inl, inr, ◌≡◌, ◌⊎◌, ◌≤◌, OnErr, ℕ, List, [], ◌∷◌, Some, None, Ok, Err, Result, refl, sym, ap, subst, ◌∙◌, arith, true, false}
use Rattle.keeper_sqlite.specs.Cells.{HasTypedNumber}
use Rattle.keeper_sqlite.specs.Batches.{InTurn, PutsRow, SetsRow, MakesWrite, KeepsBatch, IsInside, Wrote, Makes, Undoes, IsKept, Keeps}
use Rattle.site_keeper.specs.Batch.{Batch}
use Rattle.store_six.specs.Calls.{Tells, Passes, Nothing, Begins, Changes, Commits, KeepsKept, CountsFault, Runs}
use Rattle.content_rows.specs.CellText.{cell_text}
use Rattle.content_rows.specs.declared.cell.Cell.{Cell}
use Rattle.content_rows.specs.declared.row.Row.{Row}
use Rattle.indexed_rows.specs.Write.{Write}
use Rattle.store_six.specs.Tables.{Tables, IsRemoved, OnCells}
use Rattle.store_six.specs.declared.fault.StoreFault.{StoreFault}
use Rattle.store_six.specs.declared.fault.StoreFault.TheVariants as store_fault

-- ---- what calls pass on

pub passes_itself : (t : Tells) (May : Tables → Type 0) → Passes May t t
passes_itself t May = record { clean = λ c. c; was_open = λ c o. o; crash = λ c s left. inl left; faults = omega arith }

pub passes_then : (a b c : Tells) (First Second May : Tables → Type 0) → (b.clean → (t : Tables) → First t → May t) → (c.clean → (t : Tables) → Second t → May t) → Passes First a b → Passes Second b c → Passes May a c
passes_then a b c First Second May one two first second = record {
  clean = λ clean. first.clean (second.clean clean);
  was_open = λ clean o. first.was_open (second.clean clean) (second.was_open clean o);
  crash = λ clean t left. elim (second.crash clean t left) [
    | inl mid ↦ elim (first.crash (second.clean clean) t mid) [ inl was ↦ inl was | inr commits ↦ inr (one (second.clean clean) t commits) ]
    | inr commits ↦ inr (two clean t commits)
  ];
  faults = omega (arith, first.faults, second.faults);
}

pub nothing_then : (a b c : Tells) (May : Tables → Type 0) → Passes Nothing a b → Passes May b c → Passes May a c
nothing_then a b c May = passes_then a b c Nothing May May (λ clean t none. absurd none) (λ clean t may. may)

-- ---- calls that wrote

pub wrote_nothing : (t : Tells) (Change : Tables → Tables → Type 0) → ((x : Tables) → Change x x) → Wrote Change t t
wrote_nothing t Change same = record {
  passes = passes_itself t Nothing;
  changes = λ clean inside. record { was_open = inside.0; is_open = inside.0; inside = inside.1; kept = refl; seen = same t.seen };
  steady = refl;
}

pub wrote_then : (a b c : Tells) (First Second Change : Tables → Tables → Type 0) → ((x y z : Tables) → First x y → Second y z → Change x z) → Wrote First a b → Wrote Second b c → Wrote Change a c
wrote_then a b c First Second Change both first second = record {
  passes = nothing_then a b c Nothing first.passes second.passes;
  changes = λ clean inside.
      let one = first.changes (second.passes.clean clean) inside in
      let two = second.changes clean (one.is_open, one.inside) in
      record { was_open = one.was_open; is_open = two.is_open; inside = two.inside; kept = two.kept ∙ one.kept; seen = both a.seen b.seen c.seen one.seen two.seen };
  steady = second.steady ∙ first.steady;
}

module _ {X : Type 0} where
  pub makes_all : (a b : Tells) (Change : Tables → Tables → Type 0) (x : X) → Wrote Change a b → Makes Change a b (Ok x)
  makes_all a b Change x wrote = record { passes = wrote.passes; ok = wrote; err = λ clean inside. tt; cause = tt }

  pub stops : {Y : Type 0} (a b c : Tells) (First Second Change : Tables → Tables → Type 0) (e : StoreFault) → Wrote First a b → Makes {X = Y} Second b c (Err e) → Makes {X = X} Change a c (Err e)
  stops a b c First Second Change e first second = record {
    passes = nothing_then a b c Nothing first.passes second.passes;
    ok = tt;
    err = λ clean inside o. let one = first.changes (second.passes.clean clean) inside in second.err clean (one.is_open, one.inside) o ∙ one.kept;
    cause = subst (λ f. CountsFault e f c.faults) first.steady second.cause;
  }

  pub refused_at_once : {Y : Type 0} (a b : Tells) (First Change : Tables → Tables → Type 0) (e : StoreFault) → Makes {X = Y} First a b (Err e) → Makes {X = X} Change a b (Err e)
  refused_at_once a b First Change e first = record { passes = first.passes; ok = tt; err = first.err; cause = first.cause }

  pub wants_memory : (a b : Tells) (First Change : Tables → Tables → Type 0) → Wrote First a b → Makes {X = X} Change a b (Err store_fault.OutOfMemory)
  wants_memory a b First Change first = record { passes = first.passes; ok = tt; err = λ clean inside o. (first.changes clean inside).kept; cause = first.steady }

  pub memory_at_once : (t : Tells) (Change : Tables → Tables → Type 0) → Makes {X = X} Change t t (Err store_fault.OutOfMemory)
  memory_at_once t Change = record { passes = passes_itself t Nothing; ok = tt; err = λ clean inside o. refl; cause = refl }

  -- a statement, whose change is one of these
  pub makes_by : (a b : Tells) (By Change : Tables → Tables → Type 0) → ((x y : Tables) → By x y → Change x y) → (r : Result X StoreFault) → Runs Nothing (Changes By) a b r → Makes Change a b r
  makes_by a b By Change is (Ok x) runs = record {
    passes = runs.passes;
    ok = record {
      passes = runs.passes;
      changes = λ clean inside. let done = runs.ok clean in record { was_open = done.was_open; is_open = done.is_open; inside = done.inside; kept = done.kept; seen = is a.seen b.seen done.seen };
      steady = runs.steady;
    };
    err = λ clean inside. tt;
    cause = tt;
  }
  makes_by a b By Change is (Err e) runs = record { passes = runs.passes; ok = tt; err = λ clean inside. runs.err clean; cause = runs.cause }

  -- calls whose change is one of these
  pub makes_as : (a b : Tells) (By Change : Tables → Tables → Type 0) → ((x y : Tables) → By x y → Change x y) → (r : Result X StoreFault) → Makes By a b r → Makes Change a b r
  makes_as a b By Change is (Ok x) made = record {
    passes = made.passes;
    ok = record {
      passes = made.ok.passes;
      changes = λ clean inside. let done = made.ok.changes clean inside in
          record { was_open = done.was_open; is_open = done.is_open; inside = done.inside; kept = done.kept; seen = is a.seen b.seen done.seen };
      steady = made.ok.steady;
    };
    err = made.err;
    cause = made.cause;
  }
  makes_as a b By Change is (Err e) made = record { passes = made.passes; ok = tt; err = made.err; cause = made.cause }

  -- calls that went before
  pub makes_then : (a b c : Tells) (First Second Change : Tables → Tables → Type 0) → ((x y z : Tables) → First x y → Second y z → Change x z) → (r : Result X StoreFault) → Wrote First a b → Makes Second b c r → Makes Change a c r
  makes_then a b c First Second Change both (Ok x) first second = makes_all a c Change x (wrote_then a b c First Second Change both first second.ok)
  makes_then a b c First Second Change both (Err e) first second = stops a b c First Second Change e first second

-- ---- a write

module _ {X : Type 0} (w : Write) (a b : Tells) (r : Result X StoreFault) where
  -- as one writes that is known to be typed
  typed_write : HasTypedNumber w.cell → Makes (SetsRow w.cell w.row) a b r → Makes (MakesWrite w) a b r
  typed_write typed made = makes_as a b (SetsRow w.cell w.row) (MakesWrite w) (λ x y sets. (typed, sets)) r made

  pub puts_write : (cell : Cell) (row : Row) (text : List ℕ) → Makes (PutsRow cell row text) a b r → cell ≡ w.cell → text ≡ cell_text w.cell → w.row ≡ Some row → HasTypedNumber cell → Makes (MakesWrite w) a b r
  puts_write cell row text made here named is typed =
      typed_write (subst HasTypedNumber here typed)
      (subst (λ o. Makes (SetsRow w.cell o) a b r) (sym is) (subst (λ t. Makes (PutsRow w.cell row t) a b r) named (subst (λ (k : Cell). Makes (PutsRow k row text) a b r) here made)))

  pub removes_write : (cell : Cell) (text : List ℕ) → Runs Nothing (Changes (OnCells (IsRemoved text))) a b r → text ≡ cell_text w.cell → w.row ≡ None → cell ≡ w.cell → HasTypedNumber cell → Makes (MakesWrite w) a b r
  removes_write cell text runs named is here typed =
      typed_write (subst HasTypedNumber here typed)
      (subst (λ o. Makes (SetsRow w.cell o) a b r) (sym is) (subst (λ t. Makes (OnCells (IsRemoved t)) a b r) named (makes_by a b (OnCells (IsRemoved text)) (OnCells (IsRemoved text)) (λ x y same. same) r runs)))

-- ---- in turn

-- what comes of the rest comes of all
abbrev pub Leads : {X : Type 0} → (X → Tables → Tables → Type 0) → List X → List X → Tables → Tables → Type 0
Leads Does all rest x y = (z : Tables) → InTurn Does rest y z → InTurn Does all x z

module _ {X : Type 0} (Does : X → Tables → Tables → Type 0) (all : List X) where
  pub leads_from_all : (x : Tables) → Leads Does all all x x
  leads_from_all x z h = h

  pub leads_on : (first : X) (rest later : List X) → rest ≡ first ∷ later → (x y z : Tables) → Leads Does all rest x y → Does first y z → Leads Does all later x z
  leads_on first rest later is x y z leads does w h = leads w (subst (λ l. InTurn Does l y w) (sym is) (z, does, h))

  pub leads_to_end : (rest : List X) → rest ≡ [] → (x y : Tables) → Leads Does all rest x y → InTurn Does all x y
  leads_to_end rest is x y leads = leads y (subst (λ l. InTurn Does l y y) (sym is) refl)

  pub all_in_turn : (a b : Tells) (rest : List X) → rest ≡ [] → Wrote (Leads Does all rest) a b → Wrote (InTurn Does all) a b
  all_in_turn a b rest is wrote = record {
    passes = wrote.passes;
    changes = λ clean inside. let done = wrote.changes clean inside in
        record { was_open = done.was_open; is_open = done.is_open; inside = done.inside; kept = done.kept; seen = leads_to_end rest is a.seen b.seen done.seen };
    steady = wrote.steady;
  }

-- ---- the whole transaction

module _ {X : Type 0} (batch : Batch) (a b c d : Tells) where
  -- it was committed, or the commit was refused
  pub kept_by : {Y Z : Type 0} (y : Y) (z : Z) (r : Result X StoreFault) → Runs Nothing Begins a b (Ok y) → Makes (KeepsBatch batch) b c (Ok z) → Runs (λ t. t ≡ c.seen) Commits c d r → (d.clean → OnErr r (d.inside ≡ false)) → Keeps batch a d r
  kept_by y z r begin write commit out =
      let inside : b.clean → IsInside b = λ clean. let on = begin.ok clean in (on.is_open, on.inside) in
      let change = λ (clean : c.clean). write.ok.changes clean (inside (write.passes.clean clean)) in
      let seen = λ (clean : c.clean). subst (λ t. KeepsBatch batch t c.seen) (begin.ok (write.passes.clean clean)).seen (change clean).seen in
      let passes : Passes (KeepsBatch batch a.kept) a d = nothing_then a c d _ (nothing_then a b c Nothing begin.passes write.passes)
      (passes_then c c d Nothing (λ t. t ≡ c.seen) (KeepsBatch batch a.kept) (λ clean t none. absurd none) (λ clean t is. subst (KeepsBatch batch a.kept) (sym is) (seen (commit.passes.clean clean))) (passes_itself c Nothing) commit.passes) in
      let kept = λ (clean : c.clean). (change clean).kept ∙ (begin.ok (write.passes.clean clean)).kept in
      let steady : c.faults ≡ a.faults = write.ok.steady ∙ begin.steady in
      at r commit out passes seen kept steady
    where
      at : (r : Result X StoreFault) → Runs (λ t. t ≡ c.seen) Commits c d r → (d.clean → OnErr r (d.inside ≡ false)) → Passes (KeepsBatch batch a.kept) a d → (c.clean → KeepsBatch batch a.kept c.seen) → (c.clean → c.kept ≡ a.kept) → c.faults ≡ a.faults → Keeps batch a d r
      at (Ok x) commit out passes seen kept steady = record {
        passes = passes;
        ok = λ clean. let done = commit.ok clean in record {
          was_open = passes.was_open clean done.is_open;
          is_open = done.is_open;
          outside = done.inside;
          kept = subst (KeepsBatch batch a.kept) (sym done.kept) (seen (commit.passes.clean clean));
        };
        err = λ clean. tt;
        outside = λ clean off. (commit.ok clean).inside;
        steady = commit.steady ∙ steady;
        cause = tt;
      }
      at (Err e) commit out passes seen kept steady = record {
        passes = passes;
        ok = λ clean. tt;
        err = λ clean o. commit.err clean o ∙ kept (commit.passes.clean clean);
        outside = λ clean off. out clean;
        steady = tt;
        cause = subst (λ f. CountsFault e f d.faults) steady commit.cause;
      }

  -- a write was refused, and the transaction given up
  pub given_up_by : {Y Z : Type 0} (y : Y) (e : StoreFault) → Runs Nothing Begins a b (Ok y) → Makes {X = Z} (KeepsBatch batch) b c (Err e) → Undoes c d → Keeps {X = X} batch a d (Err e)
  given_up_by y e begin write undo = record {
    passes = passes_then a c d Nothing Nothing _ (λ clean t none. absurd none) (λ clean t none. absurd none) (nothing_then a b c Nothing begin.passes write.passes) undo.passes;
    ok = λ clean. tt;
    err = λ clean o.
        let clean_c = undo.passes.clean clean in
        let on = begin.ok (write.passes.clean clean_c) in
        undo.kept clean o ∙ write.err clean_c (on.is_open, on.inside) (undo.passes.was_open clean o) ∙ on.kept;
    outside = λ clean off. undo.outside clean;
    steady = tt;
    cause = subst (λ f. CountsFault e f d.faults) begin.steady (subst (CountsFault e b.faults) (sym undo.steady) write.cause);
  }

-- no transaction was begun
pub not_begun : {X Y : Type 0} (batch : Batch) (a b : Tells) (e : StoreFault) → Runs {X = Y} Nothing Begins a b (Err e) → Keeps {X = X} batch a b (Err e)
not_begun batch a b e begin = record {
  passes = passes_then a a b Nothing Nothing _ (λ clean t none. absurd none) (λ clean t none. absurd none) (passes_itself a Nothing) begin.passes;
  ok = λ clean. tt;
  err = λ clean. begin.err clean;
  outside = λ clean. begin.outside clean;
  steady = tt;
  cause = begin.cause;
}

-- the commit was refused, and the transaction rolled back
pub undone_commit : {X Y : Type 0} (a b c : Tells) (e : StoreFault) → Runs {X = Y} (λ t. t ≡ a.seen) Commits a b (Err e) → Undoes b c → Runs {X = X} (λ t. t ≡ a.seen) Commits a c (Err e)
undone_commit a b c e commit undo = record {
  passes = passes_then a b c (λ t. t ≡ a.seen) Nothing (λ t. t ≡ a.seen) (λ clean t is. is) (λ clean t none. absurd none) commit.passes undo.passes;
  ok = λ clean. tt;
  err = λ clean o. undo.kept clean o ∙ commit.err (undo.passes.clean clean) (undo.passes.was_open clean o);
  outside = λ clean off. undo.outside clean;
  steady = tt;
  cause = subst (CountsFault e a.faults) (sym undo.steady) commit.cause;
}
