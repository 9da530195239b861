-- The kept site that the two tables of a store stand for: the table of cells has each row of the site, in JSON, under the
-- text of its cell, and the number under `head`; the table of tags has each count under the text of its tag. Nothing else
-- stands in them.
use Rattle.std.specs.Prelude.{ℕ, List, [], ◌∷◌, ◌++◌, Option, Some, None, codes, ◌≡◌, ◌⊎◌}
use Rattle.std.specs.BTreeMap.{is_at}
use Rattle.std.specs.Map.{lookup}
use Rattle.cacheability.specs.Tag.{tag_cmp}
use Rattle.cacheability.specs.declared.tag.Tag.{Tag}
use Rattle.content_rows.specs.declared.cell.Cell.{Cell}
use Rattle.content_rows.specs.declared.row.Row.{Row}
use Rattle.indexed_rows.specs.Rows.{InOrder, AreValidRows, row_at}
use Rattle.keeper_sqlite.specs.Batches.{KeepsBatch}
use Rattle.keeper_sqlite.specs.Bodies.{row_of}
use Rattle.keeper_sqlite.specs.Found.{AreReadAs, AreUnreadable, HaveHead, nothing_held}
use Rattle.keeper_sqlite.specs.Numbers.{head_in, count_in}
use Rattle.keeper_sqlite.specs.Tags.{tag_of}
use Rattle.site_keeper.specs.Batch.{Batch}
use Rattle.site_keeper.specs.Keeper.{Kept, held_of, with_batch}
use Rattle.site_keeper.specs.declared.stored.Stored.{Stored}
use Rattle.sqlite_rules.specs.Lists.{Has}
use Rattle.store_six.specs.Tables.{Entry, Entries, Tables}
use Rattle.tag_counts.specs.Counts.{IsInOrder}
use Rattle.table_laws.specs.Moments.{no_entries}

-- ---- what an entry says

-- that this is the row of this cell: the key is the text of the cell, and beside it stands the row in JSON
abbrev pub SaysRow : Entry → Cell → Row → Type 0
SaysRow e c r = row_of e.0 e.1 ≡ Some (c, r)

-- that this is the number: beside the key `head` it stands in decimal
abbrev pub SaysNumber : Entry → ℕ → Type 0
SaysNumber e n = (e.0 ≡ codes "head") × (head_in e.1 ≡ Some n)

-- that this tag was invalidated so often: the key is the text of the tag, and beside it stand the 8 bytes of the count
abbrev pub SaysCount : Entry → Tag → ℕ → Type 0
SaysCount e tag n = (tag_of e.0 ≡ Some tag) × (count_in e.1 ≡ Some n)

-- ---- what the tables stand for

-- the count of a tag, if it has one
abbrev pub count_at : List (Tag × ℕ) → Tag → Option ℕ
count_at counts tag = lookup (is_at (tag_cmp tag)) counts

-- an entry is a row of the site, or its number
abbrev pub IsOfSite : List (Cell × Row) → ℕ → Entry → Type 0
IsOfSite rows number e = ((c : Cell) × (r : Row) × SaysRow e c r × (row_at rows c ≡ Some r)) ⊎ SaysNumber e number

-- an entry is a count
abbrev pub IsOfCounts : List (Tag × ℕ) → Entry → Type 0
IsOfCounts counts e = (tag : Tag) × (n : ℕ) × SaysCount e tag n × (count_at counts tag ≡ Some n)

-- the table of cells has the rows and the number, which is 0 where the table doesn't have it, and nothing else
pub record HasRows (table : Entries) (rows : List (Cell × Row)) (number : ℕ) : Type 0 where
  pub only : (e : Entry) → Has table (Some e) → IsOfSite rows number e
  pub all : (c : Cell) (r : Row) → row_at rows c ≡ Some r → (e : Entry) × Has table (Some e) × SaysRow e c r
  pub numbered : (number ≡ 0) ⊎ ((e : Entry) × Has table (Some e) × SaysNumber e number)
  -- nothing in it is of other kinds than it should be
  pub readable : Has table None → ⊥
  pub ordered : InOrder rows

-- the table of tags has the counts, and nothing else
pub record HasCounts (table : Entries) (counts : List (Tag × ℕ)) : Type 0 where
  pub only : (e : Entry) → Has table (Some e) → IsOfCounts counts e
  pub all : (tag : Tag) (n : ℕ) → count_at counts tag ≡ Some n → (e : Entry) × Has table (Some e) × SaysCount e tag n
  pub readable : Has table None → ⊥
  pub ordered : IsInOrder counts

-- the tables stand for what is held of a site
pub record StandFor (t : Tables) (held : Stored) : Type 0 where
  pub cells : HasRows t.cells held.rows held.head
  pub tags : HasCounts t.tags held.counts

-- the tables stand for no site
abbrev pub StandForNothing : Tables → Type 0
StandForNothing t = (held : Stored) → StandFor t held → ⊥

-- whatever site the old tables stand for, the new ones stand for it with the batch, where its rows are right then
abbrev pub StandWith : Batch → Tables → Tables → Type 0
StandWith batch old new = (held : Stored) → StandFor old held → AreValidRows (with_batch held batch).rows → StandFor new (with_batch held batch)

-- ---- laws

-- tables stand for one site at most
abbrev pub StandForOne : Type 0
StandForOne = (t : Tables) (a b : Stored) → StandFor t a → StandFor t b → a ≡ b

-- tables that are new stand for a site of which nothing is held
abbrev pub NewStandForNone : Type 0
NewStandForNone = StandFor no_entries nothing_held

-- what a batch does to the tables is what it does to the site
abbrev pub BatchesStand : Type 0
BatchesStand = (batch : Batch) (old new : Tables) → KeepsBatch batch old new → StandWith batch old new

-- and one batch after the other
abbrev pub KeptStands : Type 0
KeptStands = (kept : Kept) (batch : Batch) (old new : Tables) → StandFor old (held_of kept) → KeepsBatch batch old new → AreValidRows (with_batch (held_of kept) batch).rows
    → StandFor new (held_of (record kept { batches = kept.batches ++ batch ∷ [] }))

-- the tables stand for what is read of them, and for nothing where they can't be read
abbrev pub StandForWhatIsRead : Type 0
StandForWhatIsRead = (t : Tables) → ((held : Stored) → AreReadAs t held → StandFor t held) × (AreUnreadable t → StandForNothing t)

-- and so does the number
abbrev pub NumberIsRead : Type 0
NumberIsRead = (t : Tables) (held : Stored) → StandFor t held → ((n : ℕ) → HaveHead t (Some n) → n ≡ held.head) × (HaveHead t None → ⊥)
