use Rattle.std.proofs.Common.{◌≡◌, drop}
use Rattle.http_heads.specs.Fields.{stands}
use Rattle.http_heads.specs.Lines.{lines}
use Rattle.http_heads.proofs.fields.stands.Given as goal

-- no row so far has the name
abbrev pub invariant-rows : goal.invariant-rows
invariant-rows l = stands l.name (lines l.bytes (drop l.row-index l.rows)) ≡ stands l.name (lines l.bytes l.rows)
