use Rattle.std.proofs.Common.{length}
use Rattle.site_lists.specs.Paging.{page_at}
use Rattle.render_array.specs.Listings.{listing_view, page_of_nodes}
use Rattle.render_array.proofs.Lists.{over}
use Rattle.render_canvas.proofs.Run.{next, over_text}
use Rattle.render_array.proofs.listings.listing_view.Goals as goal

pub returns : goal.returns
unfolding listing_view
returns c =
    next _ c.by_viewer.ensures (next _ c.listing_rows-rows.ensures (next _ c.page_number-asked.ensures
    (over_text (λ ids. page_of_nodes c.args.placing ids (page_at (length ids) c.page_number-asked.result))
    (over (page_of_nodes c.args.placing c.as_slice-ids.result.now) c.page_of_nodes.ensures c.page_at-page.ensures.exact)
    c.as_slice-ids.ensures.value)))
