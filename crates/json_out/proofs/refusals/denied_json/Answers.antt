use Rattle.json_out.specs.Told.{denied_json}
use Rattle.json_out.proofs.NoFloats.{denied_has_none}
use Rattle.json_out.proofs.refusals.denied_json.Goals as goal

pub returns : goal.returns
unfolding denied_json
returns c =
    c.text_of.ensures _ (denied_has_none _) (
    c.with_value-map-2.ensures _ _ (
    c.with_value-map.ensures _ _ (
    c.no_keys-map.ensures)
    c.try_from_str.ensures)
    c.reason_value.ensures)
