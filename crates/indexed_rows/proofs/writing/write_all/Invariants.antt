use Rattle.std.proofs.Common.{ℕ, ◌≡◌, ◌≤◌, ◌+◌, ◌*◌, take, fold, length}
use Rattle.bucket_map.specs.Buckets.{bucket_size, AtMost}
use Rattle.cell_keys.specs.Places.{cell_place}
use Rattle.indexed_rows.specs.Cells.{cells_of}
use Rattle.indexed_rows.specs.Indexes.{AreIndexes}
use Rattle.indexed_rows.specs.Write.{written}
use Rattle.indexed_rows.proofs.writing.write_all.Given as goal

-- so far the writes so far are made, and each bucket has at most one row more for each of them
abbrev pub invariant-writes : goal.invariant-writes
invariant-writes g l = record {
  rows : l.rows ≡ fold written l.fn.rows (take l.write-index l.writes);
  indexes : AreIndexes l.rows l.indexes;
  sizes : (n : ℕ) → bucket_size cell_place l.rows n ≤ bucket_size cell_place l.fn.rows n + l.write-index;
  cost : (most : ℕ) → AtMost cell_place l.fn.rows most (cells_of l.writes) → l.steps ≤ l.fn.steps + (most + length l.writes) * l.write-index;
}
