use Rattle.std.proofs.Common.{map}
use Rattle.json_out.specs.Told.{node_json}
use Rattle.json_out.proofs.NoFloats.{node_has_none}
use Rattle.json_out.proofs.node.node_json.Goals as goal

pub returns : goal.returns
unfolding node_json
returns c =
    c.text_of.ensures _ (node_has_none c.args.n c.args.node.now (map (λ field. field.now) c.args.fields.now) c.args.terms.now) (
    c.with_key-map-6.ensures _ (
    c.with_key-map-5.ensures _ (
    c.with_key-map-4.ensures _ (
    c.with_value-map-2.ensures _ _ (
    c.with_key-map-3.ensures _ (
    c.with_key-map-2.ensures _ (
    c.with_value-map.ensures _ _ (
    c.with_key-map.ensures _ (
    c.no_keys-map.ensures))
    c.fields_value.ensures)))
    c.numbers_value.ensures))))
