-- The calls of a store over a connection, with the count of faults.
use Rattle.std.proofs.Common.{inl, inr, ◌≡◌, ◌≤◌, ℕ, List, Bool, true, false, not, Ok, Err, Result, Vec, refl, sym, ◌∙◌, true≢false, arith}
use Rattle.std.specs.declared.alloc.Global.{Global}
use Rattle.sqlite.specs.Order.{Row}
use Rattle.sqlite.specs.State.{State}
use Rattle.sqlite.specs.declared.error.Error.{Error}
use Rattle.store_six.specs.Calls.{Tells, Passes, Nothing, Begins, Changes, Commits, Runs, Reads, CountsFault}
use Rattle.store_six.specs.Tables.{Tables}
use Rattle.store_six.specs.declared.fault.StoreFault.{StoreFault}
use Rattle.table_laws.specs.Moments.{told, Starts, Alters, Keeps, Finds}
use Rattle.table_laws.specs.Stored.{tables_of}

-- whatever the counts are
pub counted : (f f' : ℕ) (old new : State) (May : Tables → Type 0) → f ≤ f' → Passes May (told 0 old) (told 0 new) → Passes May (told f old) (told f' new)
counted f f' old new May counts p = record { clean = p.clean; was_open = p.was_open; crash = p.crash; faults = counts }

-- ---- a call that writes

module _ {X : Type 0} (f f' : ℕ) where
  -- refused before its statement
  pub untried : (May : Tables → Type 0) (Does : Tells → Tells → Type 0) (s : State) (e : StoreFault) → f ≤ f' → CountsFault e f f' → Runs {X = X} May Does (told f s) (told f' s) (Err e)
  untried May Does s e counts cause = record {
    passes = record { clean = λ c. c; was_open = λ c o. o; crash = λ c t left. inl left; faults = counts };
    ok = λ c. tt;
    err = λ c o. refl;
    outside = λ c off. off;
    steady = tt;
    cause = cause;
  }

  module _ (Change : Tables → Tables → Type 0) (old new : State) where
    pub altered : (n : ℕ) (x : X) → f' ≡ f → Alters Change old new (Ok n) → Runs Nothing (Changes Change) (told f old) (told f' new) (Ok x)
    altered n x same a = record {
      passes = counted f f' old new Nothing (omega (arith, same)) a.passes;
      ok = λ c. let done = a.ok c in record { was_open = done.was_open; is_open = done.is_open; inside = done.inside; kept = done.kept; seen = done.seen };
      err = λ c. tt;
      outside = λ c. tt;
      steady = same;
      cause = tt;
    }

    pub not_altered : (e : Error) (fault : StoreFault) → f ≤ f' → CountsFault fault f f' → Alters Change old new (Err e) → Runs {X = X} Nothing (Changes Change) (told f old) (told f' new) (Err fault)
    not_altered e fault counts cause a = record { passes = counted f f' old new Nothing counts a.passes; ok = λ c. tt; err = a.err; outside = a.outside; steady = tt; cause = cause }

  module _ (old new : State) where
    pub started : (n : ℕ) (x : X) → f' ≡ f → Starts old new (Ok n) → Runs Nothing Begins (told f old) (told f' new) (Ok x)
    started n x same b = record {
      passes = counted f f' old new Nothing (omega (arith, same)) b.passes;
      ok = λ c. let done = b.ok c in record { was_open = done.was_open; is_open = done.is_open; inside = done.inside; kept = done.kept; seen = done.seen };
      err = λ c. tt;
      outside = λ c. tt;
      steady = same;
      cause = tt;
    }

    pub not_started : (e : Error) (fault : StoreFault) → f ≤ f' → CountsFault fault f f' → Starts old new (Err e) → Runs {X = X} Nothing Begins (told f old) (told f' new) (Err fault)
    not_started e fault counts cause b = record { passes = counted f f' old new Nothing counts b.passes; ok = λ c. tt; err = b.err; outside = b.outside; steady = tt; cause = cause }

    pub committed : (n : ℕ) (x : X) → f' ≡ f → Keeps old new (Ok n) → Runs (λ t. t ≡ tables_of old.now.trees) Commits (told f old) (told f' new) (Ok x)
    committed n x same k = record {
      passes = counted f f' old new _ (omega (arith, same)) k.passes;
      ok = λ c. let done = k.ok c in record { was_open = done.was_open; is_open = done.is_open; inside = done.inside; kept = done.kept };
      err = λ c. tt;
      outside = λ c. tt;
      steady = same;
      cause = tt;
    }

    pub not_committed : (e : Error) (fault : StoreFault) → f ≤ f' → CountsFault fault f f' → Keeps old new (Err e) → Runs {X = X} (λ t. t ≡ tables_of old.now.trees) Commits (told f old) (told f' new) (Err fault)
    not_committed e fault counts cause k = record { passes = counted f f' old new _ counts k.passes; ok = λ c. tt; err = k.err; outside = k.outside; steady = tt; cause = cause }

-- ---- a call that reads

module _ {X : Type 0} (f f' : ℕ) (Wanted : X → Type 0) where
  pub unread : (s : State) (e : StoreFault) → f ≤ f' → CountsFault e f f' → Reads Wanted (told f s) (told f' s) (Err e)
  unread s e counts cause = record {
    passes = record { clean = λ c. c; was_open = λ c o. o; crash = λ c t left. inl left; faults = counts };
    kept = λ c o. refl;
    outside = λ c off. off;
    ok = λ c. tt;
    steady = tt;
    cause = cause;
  }

  module _ (old new : State) (Are : List Row → Type 0) where
    pub read : (rows : Vec Row Global) (x : X) → f' ≡ f → (Are rows.items → Wanted x) → Finds Are old new (Ok rows) → Reads Wanted (told f old) (told f' new) (Ok x)
    read rows x same show found = record {
      passes = counted f f' old new Nothing (omega (arith, same)) found.passes;
      kept = found.kept;
      outside = λ c off. found.outside c;
      ok = λ c. let them = found.ok c in (them.0, show them.1);
      steady = same;
      cause = tt;
    }

    pub not_read : (r : Result (Vec Row Global) Error) (fault : StoreFault) → f ≤ f' → CountsFault fault f f' → Finds Are old new r → Reads Wanted (told f old) (told f' new) (Err fault)
    not_read r fault counts cause found = record { passes = counted f f' old new Nothing counts found.passes; kept = found.kept; outside = λ c off. found.outside c; ok = λ c. tt; steady = tt; cause = cause }

-- ---- the mode, by a test

pub is_inside : (autocommit inside : Bool) → autocommit ≡ not inside → autocommit ≡ false → inside ≡ true
is_inside autocommit true value is = refl
is_inside autocommit false value is = absurd (true≢false (sym value ∙ is))

pub is_outside : (autocommit inside : Bool) → autocommit ≡ not inside → autocommit ≡ true → inside ≡ false
is_outside autocommit false value is = refl
is_outside autocommit true value is = absurd (true≢false (sym is ∙ value))
