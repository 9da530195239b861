-- What a keeper holds, and what it holds once a batch is kept.
use Rattle.std.specs.Prelude.{ℕ, List, [], ◌∷◌, ◌++◌, ◌≡◌, ◌+◌, ◌⊎◌, Option, Some, None, min, Bool, true}
use Rattle.std.specs.List.{fold}
use Rattle.cacheability.specs.declared.tag.Tag.{Tag}
use Rattle.tag_counts.specs.Counts.{with_count}
use Rattle.indexed_rows.specs.Write.{written}
use Rattle.site_keeper.specs.declared.fault.KeeperFault.{KeeperFault}
use Rattle.site_keeper.specs.declared.fault.KeeperFault.TheVariants as keeper_fault
use Rattle.site_keeper.specs.declared.stored.Stored.{Stored}
use Rattle.site_keeper.specs.Batch.{Batch}

-- ---- what is held

-- the counts with that of a tag set
abbrev pub with_entry : List (Tag × ℕ) → Tag × ℕ → List (Tag × ℕ)
with_entry counts entry = with_count counts entry.0 entry.1

-- what is held once a batch is kept: its writes are made in turn, each count that it names is set, and its number is the
-- head
unfoldable pub with_batch : Stored → Batch → Stored
with_batch held batch = record {
  rows = fold written held.rows batch.commit.writes;
  counts = fold with_entry held.counts batch.counts;
  head = batch.head;
}

-- what a keeper was made of, and the batches that it kept since, in order
pub record Kept : Type 0 where
  pub made_of : Stored
  pub batches : List Batch

-- what it holds
abbrev pub held_of : Kept → Stored
held_of kept = fold with_batch kept.made_of kept.batches

-- ---- what is told of it

-- a fact of what is held, where that is told
abbrev pub IfTold : Option Kept → (Stored → Type 0) → Type 0
IfTold None P = Unit {0}
IfTold (Some kept) P = P (held_of kept)

-- what is told once one batch more is kept
abbrev pub and_batch : Option Kept → Batch → Option Kept
and_batch None batch = None
and_batch (Some kept) batch = Some (record kept { batches = kept.batches ++ batch ∷ [] })

-- ---- what a fault means

-- a count of faults rose by one; one at the greatest u64 stays there
abbrev pub Rose : ℕ → ℕ → Type 0
Rose old new = new ≡ min (old + 1) 18446744073709551615

-- the count of faults rose exactly where the keeper failed
abbrev pub CountsFault : KeeperFault → ℕ → ℕ → Type 0
CountsFault keeper_fault.Failed old new = Rose old new
CountsFault keeper_fault.OutOfMemory old new = new ≡ old

-- a batch that was refused: where the keeper failed, all or nothing of it is kept, and where memory is wanting nothing
abbrev pub LeavesBatch : KeeperFault → Option Kept → Batch → Option Kept → Type 0
LeavesBatch keeper_fault.Failed old batch new = (new ≡ old) ⊎ (new ≡ and_batch old batch)
LeavesBatch keeper_fault.OutOfMemory old batch new = new ≡ old

-- what tells that it never fails goes on to tell it, and its count of faults stays
pub record StaysSteadfast (old new : Bool) (faults faults-after : ℕ) : Type 0 where
  pub tells : new ≡ old
  pub stays : old ≡ true → faults-after ≡ faults
