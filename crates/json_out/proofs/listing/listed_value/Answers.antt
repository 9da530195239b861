use Rattle.json_out.proofs.listing.listed_value.Goals as goal

pub returns : goal.returns
returns c =
    c.object_of.ensures _ (
    c.with_key-map-2.ensures _ (
    c.with_key-map.ensures _ (
    c.with_value-map.ensures _ _ (
    c.no_keys-map.ensures)
    c.href_value.ensures)))
