use Rattle.std.proofs.Common.{◌≡◌, drop}
use Rattle.keeper_sqlite.proofs.finding.take_tags.Given as goal
use Rattle.keeper_sqlite.specs.Found.{with_tags}

-- with the lines that are left, the counts come to what all come to
abbrev pub invariant-lines : goal.invariant-lines
invariant-lines l = with_tags l.counts (drop l.line-index l.lines) ≡ with_tags l.initial.counts l.lines
