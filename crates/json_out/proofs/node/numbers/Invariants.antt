use Rattle.std.proofs.Common.{◌≡◌, map, take}
use Rattle.serde_json.specs.View.{view}
use Rattle.row_kinds.specs.Look.{whole_data}
use Rattle.json_out.proofs.node.numbers.Given as goal

abbrev pub invariant-ids : goal.invariant-ids
invariant-ids l = map view l.values.items ≡ map whole_data (take l.id-index l.ids)
