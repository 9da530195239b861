use Rattle.std.proofs.Common.{◌≡◌, take}
use Rattle.std.specs.List.{fold}
use Rattle.indexed_rows.specs.Write.{written}
use Rattle.site_keeper.proofs.stored.make_writes.Given as goal

abbrev pub invariant-writes : goal.invariant-writes
invariant-writes l = l.rows ≡ fold written l.initial.rows (take l.write-index l.writes)
