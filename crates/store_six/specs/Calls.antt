-- What a store tells at a moment, and what each of its calls does to that.
use Rattle.std.specs.Prelude.{ℕ, Bool, true, false, Result, OnOk, OnErr, IfOk, IfErr, min, ◌≡◌, ◌≤◌, ◌+◌, ◌⊎◌}
use Rattle.store_six.specs.Tables.{Tables}
use Rattle.store_six.specs.declared.fault.StoreFault.{StoreFault}
use Rattle.store_six.specs.declared.fault.StoreFault.TheVariants as store_fault

-- ---- what is told

pub record Tells : Type 1 where
  -- the device has given back what it took so far: all else is told under this
  pub clean : Type 0
  -- it can be used: what it keeps once it is shut is not told
  pub is_open : Type 0
  -- a transaction is open
  pub inside : Bool
  -- the tables as the last commit left them, and as the open transaction sees them
  pub kept : Tables
  pub seen : Tables
  -- the tables that may be found once it is opened after a crash at this moment
  pub leaves : Tables → Type 0
  -- how often a statement was refused for another cause than memory, up to the greatest u64
  pub faults : ℕ

abbrev pub tells : {S : Type 0} → (S → Type 0) → (S → Type 0) → (S → Bool) → (S → Tables) → (S → Tables) → (S → Tables → Type 0) → (S → ℕ) → S → Tells
tells clean is_open inside kept seen leaves faults s = record {
  clean = clean s;
  is_open = is_open s;
  inside = inside s;
  kept = kept s;
  seen = seen s;
  leaves = leaves s;
  faults = faults s;
}

-- ---- what a call does

-- each call, however it ends: what isn't clean stays so, what was shut stays so, no fault is forgotten, and a crash leaves
-- what it left before or what this call may commit
pub record Passes (May : Tables → Type 0) (old new : Tells) : Type 0 where
  pub clean : new.clean → old.clean
  pub was_open : new.clean → new.is_open → old.is_open
  pub crash : new.clean → (t : Tables) → new.leaves t → old.leaves t ⊎ May t
  pub faults : old.faults ≤ new.faults

abbrev pub Nothing : Tables → Type 0
Nothing t = ⊥

-- what a transaction sees is changed so, and what is kept stays
pub record Changes (Change : Tables → Tables → Type 0) (old new : Tells) : Type 0 where
  pub was_open : old.is_open
  pub is_open : new.is_open
  pub inside : new.inside ≡ true
  pub kept : new.kept ≡ old.kept
  pub seen : Change old.seen new.seen

-- a transaction is open, and it sees what is kept
pub record Begins (old new : Tells) : Type 0 where
  pub was_open : old.is_open
  pub is_open : new.is_open
  pub inside : new.inside ≡ true
  pub kept : new.kept ≡ old.kept
  pub seen : new.seen ≡ old.kept

-- what the transaction saw is kept, and the transaction is over
pub record Commits (old new : Tells) : Type 0 where
  pub was_open : old.is_open
  pub is_open : new.is_open
  pub inside : new.inside ≡ false
  pub kept : new.kept ≡ old.seen

-- what is kept stays
abbrev pub KeepsKept : Tells → Tells → Type 0
KeepsKept old new = new.is_open → new.kept ≡ old.kept

-- where no transaction was open, none is
abbrev pub StaysOutside : Tells → Tells → Type 0
StaysOutside old new = old.inside ≡ false → new.inside ≡ false

-- a count of faults rose by one; one at the greatest u64 stays there
abbrev pub Rose : ℕ → ℕ → Type 0
Rose old new = new ≡ min (old + 1) 18446744073709551615

-- the count of faults rose exactly where the statement was refused for another cause than memory
abbrev pub CountsFault : StoreFault → ℕ → ℕ → Type 0
CountsFault store_fault.Failed old new = Rose old new
CountsFault store_fault.OutOfMemory old new = new ≡ old

-- a call that writes: what it may commit, and what it does where it isn't refused. One that is refused leaves what is kept,
-- and opens no transaction.
pub record Runs {X : Type 0} (May : Tables → Type 0) (Does : Tells → Tells → Type 0) (old new : Tells) (r : Result X StoreFault) : Type 0 where
  pub passes : Passes May old new
  pub ok : new.clean → OnOk r (Does old new)
  pub err : new.clean → OnErr r (KeepsKept old new)
  pub outside : new.clean → OnErr r (StaysOutside old new)
  pub steady : OnOk r (new.faults ≡ old.faults)
  pub cause : IfErr r (λ e. CountsFault e old.faults new.faults)

-- a call that reads what is kept: what it shows, where it isn't refused. What is kept stays, and no
-- transaction is left open.
pub record Reads {X : Type 0} (Wanted : X → Type 0) (old new : Tells) (r : Result X StoreFault) : Type 0 where
  pub passes : Passes Nothing old new
  pub kept : new.clean → KeepsKept old new
  pub outside : new.clean → StaysOutside old new
  pub ok : new.clean → IfOk r (λ x. old.is_open × Wanted x)
  pub steady : OnOk r (new.faults ≡ old.faults)
  pub cause : IfErr r (λ e. CountsFault e old.faults new.faults)
