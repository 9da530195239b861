use Rattle.json_out.specs.Told.{term_json}
use Rattle.json_out.proofs.NoFloats.{term_has_none}
use Rattle.json_out.proofs.people.term_json.Goals as goal

pub returns : goal.returns
unfolding term_json
returns c =
    c.text_of.ensures _ (term_has_none c.args.t c.args.term.now) (
    c.with_key-map-3.ensures _ (
    c.with_key-map-2.ensures _ (
    c.with_key-map.ensures _ (
    c.no_keys-map.ensures))))
