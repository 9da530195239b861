use Rattle.std.proofs.Common.{[]}
use Rattle.content_state.specs.Plan.{folded}
use Rattle.site_lists.specs.ListingPlan.{listing_rows, with_viewable}
use Rattle.render_array.specs.Nodes.{may_view_node}
use Rattle.render_canvas.proofs.Run.{next, over_text}
use Rattle.render_array.proofs.listings.listing_rows.Goals as goal

pub returns : goal.returns
unfolding listing_rows
returns c =
    next _ c.moment_within-moment.ensures (next _ c.candidates-ids.ensures.shows
    (over_text (folded (with_viewable may_view_node) []) c.viewable.ensures c.as_slice.ensures.value))
