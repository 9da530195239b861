use Rattle.std.proofs.Common.{◌≡◌, drop}
use Rattle.http_heads.specs.Fields.{first_value}
use Rattle.http_heads.specs.Lines.{lines}
use Rattle.http_heads.proofs.fields.first_value.Given as goal

-- no row so far has the name
abbrev pub invariant-rows : goal.invariant-rows
invariant-rows l = first_value l.name (lines l.bytes (drop l.row-index l.rows)) ≡ first_value l.name (lines l.bytes l.rows)
