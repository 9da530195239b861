-- What keeping a batch does to the two tables of a store: its writes are made in turn, then its counts are set, then its
-- head.
use Rattle.std.specs.Prelude.{ℕ, List, [], ◌∷◌, Option, Some, None, Result, IfErr, OnOk, OnErr, codes, true, false, ◌≡◌}
use Rattle.cacheability.specs.Tag.{tag_text}
use Rattle.cacheability.specs.declared.tag.Tag.{Tag}
use Rattle.content_rows.specs.CellText.{cell_text}
use Rattle.content_rows.specs.ValidRow.{IsValidRow}
use Rattle.content_rows.specs.declared.cell.Cell.{Cell}
use Rattle.content_rows.specs.declared.row.Row.{Row}
use Rattle.indexed_rows.specs.Write.{Write}
use Rattle.keeper_sqlite.specs.Bodies.{row_of}
use Rattle.keeper_sqlite.specs.Cells.{HasTypedNumber}
use Rattle.keeper_sqlite.specs.Numbers.{head_in, count_in}
use Rattle.keeper_sqlite.specs.Tags.{tag_of}
use Rattle.site_keeper.specs.Batch.{Batch}
use Rattle.store_six.specs.Calls.{Tells, Passes, Nothing, Changes, KeepsKept, StaysOutside, CountsFault}
use Rattle.store_six.specs.Tables.{Tables, IsSet, IsRemoved, OnCells, OnTags}
use Rattle.store_six.specs.declared.fault.StoreFault.{StoreFault}

-- ---- what is written

-- a body that is read as the row of the cell, where the row is right for it
abbrev pub IsBody : Cell → Row → List ℕ → Type 0
IsBody cell row body = IsValidRow cell row → row_of (cell_text cell) body ≡ Some (cell, row)

abbrev pub PutsRow : Cell → Row → List ℕ → Tables → Tables → Type 0
PutsRow cell row text old new = (body : List ℕ) × IsBody cell row body × OnCells (IsSet text body) old new

-- the row of a cell is set or removed, under the text of the cell
abbrev pub SetsRow : Cell → Option Row → Tables → Tables → Type 0
SetsRow cell (Some row) old new = PutsRow cell row (cell_text cell) old new
SetsRow cell None old new = OnCells (IsRemoved (cell_text cell)) old new

abbrev pub MakesWrite : Write → Tables → Tables → Type 0
MakesWrite write old new = HasTypedNumber write.cell × SetsRow write.cell write.row old new

-- under the text of the tag, which is read as that tag
abbrev pub SetsCount : Tag × ℕ → Tables → Tables → Type 0
SetsCount entry old new =
    (bytes : List ℕ) × (tag_of (tag_text entry.0) ≡ Some entry.0) × (count_in bytes ≡ Some entry.1) × OnTags (IsSet (tag_text entry.0) bytes) old new

abbrev pub SetsHead : ℕ → Tables → Tables → Type 0
SetsHead head old new = (text : List ℕ) × (head_in text ≡ Some head) × OnCells (IsSet (codes "head") text) old new

-- one after the other, in this order
abbrev pub InTurn : {X : Type 0} → (X → Tables → Tables → Type 0) → List X → Tables → Tables → Type 0
InTurn Does [] old new = new ≡ old
InTurn Does (x ∷ xs) old new = (mid : Tables) × Does x old mid × InTurn Does xs mid new

-- the counts of a batch are set, and then its head
abbrev pub SetsRest : Batch → Tables → Tables → Type 0
SetsRest batch old new = (counted : Tables) × InTurn SetsCount batch.counts old counted × SetsHead batch.head counted new

-- all of a batch: its writes are made, and then the rest is set
abbrev pub KeepsBatch : Batch → Tables → Tables → Type 0
KeepsBatch batch old new = (written : Tables) × InTurn MakesWrite batch.commit.writes old written × SetsRest batch written new

-- ---- a part of a transaction

abbrev pub IsInside : Tells → Type 0
IsInside t = t.is_open × (t.inside ≡ true)

-- calls that wrote, none of which was refused
pub record Wrote (Change : Tables → Tables → Type 0) (old new : Tells) : Type 0 where
  pub passes : Passes Nothing old new
  pub changes : new.clean → IsInside old → Changes Change old new
  pub steady : new.faults ≡ old.faults

-- calls that write, of which one may be refused: nothing is kept yet
pub record Makes {X : Type 0} (Change : Tables → Tables → Type 0) (old new : Tells) (r : Result X StoreFault) : Type 0 where
  pub passes : Passes Nothing old new
  pub ok : OnOk r (Wrote Change old new)
  pub err : new.clean → IsInside old → OnErr r (KeepsKept old new)
  pub cause : IfErr r (λ e. CountsFault e old.faults new.faults)

-- a transaction is given up: none is open any more
pub record Undoes (old new : Tells) : Type 0 where
  pub passes : Passes Nothing old new
  pub kept : new.clean → KeepsKept old new
  pub outside : new.clean → new.inside ≡ false
  pub steady : new.faults ≡ old.faults

-- ---- a transaction

pub record IsKept (batch : Batch) (old new : Tells) : Type 0 where
  pub was_open : old.is_open
  pub is_open : new.is_open
  pub outside : new.inside ≡ false
  pub kept : KeepsBatch batch old.kept new.kept

-- Where it went well the batch is kept, and else the tables are kept that were. A crash leaves what it left before, or the
-- tables that the batch makes. However it ends, no transaction is left open, so that the next batch can be tried.
pub record Keeps {X : Type 0} (batch : Batch) (old new : Tells) (r : Result X StoreFault) : Type 0 where
  pub passes : Passes (KeepsBatch batch old.kept) old new
  pub ok : new.clean → OnOk r (IsKept batch old new)
  pub err : new.clean → OnErr r (KeepsKept old new)
  pub outside : new.clean → StaysOutside old new
  pub steady : OnOk r (new.faults ≡ old.faults)
  pub cause : IfErr r (λ e. CountsFault e old.faults new.faults)
