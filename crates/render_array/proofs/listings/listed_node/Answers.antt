use Rattle.render_array.specs.Listings.{listed_node}
use Rattle.render_array.proofs.listings.listed_node.Goals as goal

pub returns : goal.returns
unfolding listed_node
returns c = c.open.ensures
