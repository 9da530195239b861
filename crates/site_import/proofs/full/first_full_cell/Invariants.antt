use Rattle.std.proofs.Common.{◌≡◌, drop}
use Rattle.site_import.specs.Full.{first_full_cell}
use Rattle.site_import.proofs.full.first_full_cell.Given as goal

-- the first is among those that are left, if it is among all
abbrev pub invariant-writes : goal.invariant-writes
invariant-writes l = first_full_cell l.state (drop l.write-index l.writes) ≡ first_full_cell l.state l.writes
