use Rattle.render_array.specs.Listings.{page_of_nodes}
use Rattle.render_canvas.proofs.Run.{next}
use Rattle.render_array.proofs.listings.page_of_nodes.Goals as goal

pub returns : goal.returns
unfolding page_of_nodes
returns c = next _ c.nodes_or_none.ensures c.pager_in.ensures
