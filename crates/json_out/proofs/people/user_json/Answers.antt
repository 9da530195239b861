use Rattle.json_out.specs.Told.{user_json}
use Rattle.json_out.proofs.NoFloats.{user_has_none}
use Rattle.json_out.proofs.people.user_json.Goals as goal

pub returns : goal.returns
unfolding user_json
returns c =
    c.text_of.ensures _ (user_has_none c.args.u c.args.user.now) (
    c.with_key-map-3.ensures _ (
    c.with_key-map-2.ensures _ (
    c.with_key-map.ensures _ (
    c.no_keys-map.ensures))))
