use Rattle.std.proofs.Common.{◌≡◌, map, take}
use Rattle.serde_json.specs.View.{view}
use Rattle.json_out.specs.Told.{listed_data, shown_node}
use Rattle.json_out.proofs.listing.listed.Given as goal

abbrev pub invariant-nodes : goal.invariant-nodes
invariant-nodes l = map view l.values.items ≡ map listed_data (map shown_node (take l.n-index l.nodes))
