use Rattle.std.proofs.Common.{◌≡◌, ◌++◌, drop}
use Rattle.serde_json.specs.View.{items_view}
use Rattle.row_kinds.specs.Look.{list_in}
use Rattle.row_kinds.proofs.field.read_all.Given as goal

abbrev pub invariant-values : goal.invariant-values
invariant-values g l = l.read.items ++ list_in g.T.Read.of (items_view (drop l.value-index l.values)) ≡ list_in g.T.Read.of (items_view l.values)
