use Rattle.std.proofs.Common.{length}
use Rattle.site_lists.specs.Paging.{page_at}
use Rattle.render_array.specs.Json.{json_listing_page, json_listing_view}
use Rattle.render_array.proofs.Lists.{over}
use Rattle.render_canvas.proofs.Run.{next, over_text}
use Rattle.render_array.proofs.json_listings.json_listing_view.Goals as goal

pub returns : goal.returns
unfolding json_listing_view
returns c =
    next _ c.by_viewer.ensures (next _ c.listing_rows-rows.ensures (next _ c.asked_page-asked.ensures
    (over_text (λ ids. json_listing_page ids (page_at (length ids) c.asked_page-asked.result))
    (over (json_listing_page c.as_slice-ids.result.now) c.json_listing_page.ensures c.page_at-page.ensures.exact)
    c.as_slice-ids.ensures.value)))
