use Rattle.std.proofs.Common.{◌≡◌, drop}
use Rattle.serde_json.specs.View.{items_view}
use Rattle.json_keys.specs.Fault.{items_fault}
use Rattle.json_keys.proofs.check.items_fault.Given as goal

abbrev pub invariant-values : goal.invariant-values
invariant-values g l = items_fault (g.T.Asked.fault l.asked) (items_view (drop l.value-index l.values)) ≡ items_fault (g.T.Asked.fault l.asked) (items_view l.values)
