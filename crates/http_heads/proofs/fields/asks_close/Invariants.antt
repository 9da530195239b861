use Rattle.std.proofs.Common.{◌≡◌, drop}
use Rattle.http_heads.specs.Fields.{asks_close}
use Rattle.http_heads.specs.Lines.{lines}
use Rattle.http_heads.proofs.fields.asks_close.Given as goal

-- no row so far lists `close`
abbrev pub invariant-rows : goal.invariant-rows
invariant-rows l = asks_close (lines l.bytes (drop l.row-index l.rows)) ≡ asks_close (lines l.bytes l.rows)
