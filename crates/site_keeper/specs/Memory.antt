-- A keeper in memory: what it holds, its calls, and which of them fail.
use Rattle.std.specs.Prelude.{ℕ, List, [], ◌∷◌, ◌++◌, ◌==◌, ◌+◌, ◌≡◌, Option, Some, None, min, IsSomeAnd, if◌then◌else◌, Bool, true, false}
use Rattle.std.specs.List.{find}
use Rattle.site_keeper.specs.declared.memory.Fail.{Fail}
use Rattle.site_keeper.specs.declared.fault.KeeperFault.{KeeperFault}
use Rattle.site_keeper.specs.declared.fault.KeeperFault.TheVariants as keeper_fault
use Rattle.site_keeper.specs.declared.stored.Stored.{Stored}
use Rattle.site_keeper.specs.Batch.{Batch}
use Rattle.site_keeper.specs.Keeper.{Kept}

-- ---- its calls

abbrev pub is_nil : List Fail → Bool
is_nil [] = true
is_nil (fail ∷ fails) = false

-- one more, up to the greatest u64
abbrev pub up : ℕ → ℕ
up count = min (count + 1) 18446744073709551615

-- those that are to fail, by their numbers from 1; how many were made; how many failed
pub record Calls : Type 0 where
  pub fails : List Fail
  pub made : ℕ
  pub faults : ℕ

-- whether no call is to fail
abbrev pub is_steadfast : Calls → Bool
is_steadfast calls = is_nil calls.fails

-- no call is made yet
abbrev pub fresh : List Fail → Calls
fresh fails = record { fails = fails; made = 0; faults = 0 }

-- how the next call is listed, if it is to fail; of a number that is listed twice the first counts
abbrev pub next_fail : Calls → Option Fail
next_fail calls = find (λ fail. fail.call == up calls.made) calls.fails

-- one more call, which didn't fail
abbrev pub passed : Calls → Calls
passed calls = record calls { made = up calls.made }

-- one more call, which failed
abbrev pub failed : Calls → Calls
failed calls = record calls { made = up calls.made; faults = up calls.faults }

-- one more call, which came to nothing for this reason
abbrev pub refused : Calls → KeeperFault → Calls
refused calls keeper_fault.Failed = failed calls
refused calls keeper_fault.OutOfMemory = passed calls

-- ---- the keeper

-- what it was made of and the batches that it kept since, and its calls
pub record MemoryKeeper : Type 0 where
  pub kept : Kept
  pub calls : Calls

-- nothing is kept yet but what it is made of
abbrev pub made_of : Stored → Kept
made_of stored = record { made_of = stored; batches = [] }

-- one batch more
abbrev pub with_one : Kept → Batch → Kept
with_one kept batch = record kept { batches = kept.batches ++ batch ∷ [] }

-- the keeper after an `apply`: a call that is not to fail keeps the batch, and one that is to fail keeps it where it is
-- listed so
abbrev pub applied : MemoryKeeper → Batch → Option Fail → MemoryKeeper
applied keeper batch None = record { kept = with_one keeper.kept batch; calls = passed keeper.calls }
applied keeper batch (Some fail) = record {
  kept = if fail.kept then with_one keeper.kept batch else keeper.kept;
  calls = failed keeper.calls;
}

-- An `apply` was refused: it is to fail, and the batch is kept or not, as it is listed; or memory is wanting, and all that
-- is held stays.
abbrev pub IsRefusedAs : KeeperFault → MemoryKeeper → Batch → MemoryKeeper → Type 0
IsRefusedAs keeper_fault.Failed old batch new = IsSomeAnd (next_fail old.calls) (λ fail. new ≡ applied old batch (Some fail))
IsRefusedAs keeper_fault.OutOfMemory old batch new = new ≡ record old { calls = passed old.calls }
