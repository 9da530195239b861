use Rattle.std.proofs.Common.{◌≡◌, drop, map}
use Rattle.serde_json.specs.Data.{no_members}
use Rattle.serde_json.specs.View.{members_view}
use Rattle.row_kinds.specs.Look.{texts_onto}
use Rattle.json_out.proofs.node.values_by_name.Given as goal

abbrev pub invariant-fields : goal.invariant-fields
invariant-fields l = texts_onto (map (λ field. field.now) (drop l.field-index l.fields)) (members_view l.values.entries) ≡ texts_onto (map (λ field. field.now) l.fields) no_members
