use Rattle.std.proofs.Common.{refl}
use Rattle.json_out.specs.Told.{no_target_json}
use Rattle.json_out.proofs.refusals.no_target_json.Goals as goal

pub returns : goal.returns
unfolding no_target_json
returns c =
    c.text_of.ensures _ refl (
    c.with_value-map.ensures _ _ (
    c.no_keys-map.ensures)
    c.try_from_str.ensures)
