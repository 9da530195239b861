use Rattle.std.proofs.Common.{map}
use Rattle.json_out.specs.Told.{shown_node, listing_json}
use Rattle.json_out.proofs.NoFloats.{listing_has_none}
use Rattle.json_out.proofs.listing.listing_json.Goals as goal

pub returns : goal.returns
unfolding listing_json
returns c =
    c.text_of.ensures _ (listing_has_none (map shown_node c.args.nodes.now) c.args.page c.args.pages) (
    c.with_key-map-2.ensures _ (
    c.with_key-map.ensures _ (
    c.with_value-map.ensures _ _ (
    c.no_keys-map.ensures)
    c.nodes_value.ensures)))
