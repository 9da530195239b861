use Rattle.std.proofs.Common.{◌≡◌, take, ◌≤◌}
use Rattle.std.specs.List.{count_by}
use Rattle.http_heads.specs.Fields.{is_named}
use Rattle.http_heads.specs.Lines.{lines}
use Rattle.http_heads.proofs.fields.count_named.Given as goal

-- as many of the rows so far have the name
abbrev pub invariant-rows : goal.invariant-rows
invariant-rows l = (l.count ≡ count_by (is_named l.name) (lines l.bytes (take l.row-index l.rows))) × (l.count ≤ l.row-index)
