-- What is read of the two tables of a store.
use Rattle.std.specs.Prelude.{ℕ, List, [], ◌∷◌, Option, Some, None, Result, IfOk, IfErr, OnOk, option_and_then, codes, ◌≡◌, ◌⊎◌}
use Rattle.std.specs.List.{fold}
use Rattle.cacheability.specs.declared.tag.Tag.{Tag}
use Rattle.keeper_sqlite.specs.Bodies.{with_entry_of, with_tag_of}
use Rattle.keeper_sqlite.specs.Numbers.{head_in}
use Rattle.site_keeper.specs.declared.fault.KeeperFault.{KeeperFault}
use Rattle.site_keeper.specs.declared.fault.KeeperFault.TheVariants as keeper_fault
use Rattle.site_keeper.specs.declared.stored.Stored.{Stored}
use Rattle.store_six.specs.Calls.{Tells, Passes, Nothing, KeepsKept, StaysOutside, Rose}
use Rattle.store_six.specs.Tables.{Entry, Entries, Tables, AreAll, AreBeside}

-- ---- the rows and the head

abbrev pub with_line : Option Stored → Option Entry → Option Stored
with_line None line = None
with_line (Some held) None = None
with_line (Some held) (Some e) = with_entry_of held e.0 e.1

-- what is held with these entries of the table of cells, where each of them is readable
abbrev pub with_rows : Stored → Entries → Option Stored
with_rows held lines = fold with_line (Some held) lines

-- ---- the counts

abbrev pub with_tag_line : Option (List (Tag × ℕ)) → Option Entry → Option (List (Tag × ℕ))
with_tag_line None line = None
with_tag_line (Some counts) None = None
with_tag_line (Some counts) (Some e) = with_tag_of counts e.0 e.1

-- the counts with these entries of the table of tags, where each of them is readable
abbrev pub with_tags : List (Tag × ℕ) → Entries → Option (List (Tag × ℕ))
with_tags counts lines = fold with_tag_line (Some counts) lines

-- ---- all

abbrev pub nothing_held : Stored
nothing_held = record { rows = []; counts = []; head = 0 }

-- the rows that the entries of the table of cells are read as, in some order, with the head
pub record AreRows (table : Entries) (before : Stored) (after : Option Stored) : Type 0 where
  pub lines : Entries
  pub all : AreAll table lines
  pub are : with_rows before lines ≡ after

-- the counts that the entries of the table of tags are read as, in some order
pub record AreCounts (table : Entries) (before : List (Tag × ℕ)) (after : Option (List (Tag × ℕ))) : Type 0 where
  pub lines : Entries
  pub all : AreAll table lines
  pub are : with_tags before lines ≡ after

-- with what the entries of both tables are read as, this comes of what was held before
pub record IsFilled (t : Tables) (before after : Stored) : Type 0 where
  -- once the rows are read, before the counts
  pub half : Stored
  pub rows : AreRows t.cells before (Some half)
  pub counts : AreCounts t.tags half.counts (Some after.counts)
  pub same : (after.rows ≡ half.rows) × (after.head ≡ half.head)

-- an entry of one of the tables is read as nothing
abbrev pub CannotFill : Tables → Stored → Type 0
CannotFill t before = AreRows t.cells before None ⊎ ((half : Stored) × AreRows t.cells before (Some half) × AreCounts t.tags half.counts None)

-- the tables hold this: it is what their entries are read as
abbrev pub AreReadAs : Tables → Stored → Type 0
AreReadAs t held = IsFilled t nothing_held held

abbrev pub AreUnreadable : Tables → Type 0
AreUnreadable t = CannotFill t nothing_held

-- the head that a body is; 0 where there is none
abbrev pub head_of : List (Option (List ℕ)) → Option ℕ
head_of [] = Some 0
head_of (None ∷ more) = None
head_of (Some text ∷ more) = head_in text

pub record HaveHead (t : Tables) (head : Option ℕ) : Type 0 where
  pub bodies : List (Option (List ℕ))
  pub beside : AreBeside (codes "head") t.cells bodies
  pub is : head_of bodies ≡ head

-- ---- a call that reads

-- why it was refused: a statement was, or the tables have no reading
abbrev pub Because : KeeperFault → Type 0 → Tells → Tells → Type 0
Because keeper_fault.Failed Unreadable old new = Rose old.faults new.faults ⊎ (new.clean → old.is_open × Unreadable)
Because keeper_fault.OutOfMemory Unreadable old new = new.faults ≡ old.faults

pub record Reads {X : Type 0} (Wanted : X → Type 0) (Unreadable : Type 0) (old new : Tells) (r : Result X KeeperFault) : Type 0 where
  pub passes : Passes Nothing old new
  pub kept : new.clean → KeepsKept old new
  pub outside : new.clean → StaysOutside old new
  pub ok : new.clean → IfOk r (λ x. old.is_open × Wanted x)
  pub steady : OnOk r (new.faults ≡ old.faults)
  pub cause : IfErr r (λ e. Because e Unreadable old new)
