use Rattle.std.proofs.Common.{◌≡◌, drop}
use Rattle.http_heads.specs.Fields.{asks_late}
use Rattle.http_heads.specs.Lines.{lines}
use Rattle.http_heads.proofs.fields.asks_late.Given as goal

-- no row so far asks for parts sent late
abbrev pub invariant-rows : goal.invariant-rows
invariant-rows l = asks_late (lines l.bytes (drop l.row-index l.rows)) ≡ asks_late (lines l.bytes l.rows)
