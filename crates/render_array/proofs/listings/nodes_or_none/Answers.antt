use Rattle.std.proofs.Common.{sym, ◌∙◌}
use Rattle.render_array.specs.Listings.{nodes_or_none}
use Rattle.render_array.specs.Pieces as pieces
use Rattle.render_canvas.proofs.Run.{if_true, if_false}
use Rattle.render_array.proofs.listings.nodes_or_none.Goals as goal

pub returns-then-is_empty : goal.returns-then-is_empty
unfolding nodes_or_none pieces.no_content
returns-then-is_empty c = if_true _ (sym c.is_empty.ensures ∙ c.if-is_empty.true) c.write.ensures

pub returns-else-is_empty : goal.returns-else-is_empty
unfolding nodes_or_none
returns-else-is_empty c = if_false _ (sym c.is_empty.ensures ∙ c.if-is_empty.false) c.listed_nodes.ensures
