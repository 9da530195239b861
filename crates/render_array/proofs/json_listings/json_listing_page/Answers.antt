use Rattle.std.proofs.Common.{ap, ◌∙◌, ◌+◌, map}
use Rattle.json_out.specs.Told.{shown_node, listing_json}
use Rattle.render_array.specs.Json.{told, json_listing_page}
use Rattle.render_canvas.proofs.Run.{next, over_text}
use Rattle.render_array.proofs.json_listings.json_listing_page.Goals as goal

pub returns : goal.returns
unfolding json_listing_page
returns c =
    next _ c.listed_nodes-nodes.ensures
    (over_text (told 200) (c.told.ensures _ c.listing_json-text.ensures)
    (ap (λ nodes. listing_json (map shown_node nodes) c.args.page.now.number (c.last_page.result + 1)) c.as_slice.ensures.value
    ∙ ap (λ last. listing_json (map shown_node c.listed_nodes-nodes.result.items) c.args.page.now.number (last + 1)) c.last_page.ensures))
