use Rattle.render_array.specs.Nodes.{linked_title}
use Rattle.render_array.specs.Pieces as pieces
use Rattle.render_canvas.proofs.Run.{next, next_escaped}
use Rattle.render_array.proofs.nodes.linked_title.Goals as goal

pub returns : goal.returns
unfolding linked_title pieces.teaser_start pieces.link_between pieces.teaser_end
returns c =
    next _ c.write.ensures (next _ c.href.ensures (next _ c.write-2.ensures
    (next_escaped _ _ _ c.escaped.ensures c.as_slice.ensures c.write-3.ensures)))
