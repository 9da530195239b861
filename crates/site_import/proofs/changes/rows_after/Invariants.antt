use Rattle.std.proofs.Common.{◌≡◌, take, fold}
use Rattle.indexed_rows.specs.Write.{written}
use Rattle.site_import.proofs.changes.rows_after.Given as goal

-- so far the writes so far are made
abbrev pub invariant-writes : goal.invariant-writes
invariant-writes l = l.rows ≡ fold written l.initial.rows (take l.write-index l.writes)
