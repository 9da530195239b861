use Rattle.render_array.specs.Nodes.{node_teaser}
use Rattle.render_array.specs.Pieces as pieces
use Rattle.render_canvas.proofs.Run.{next}
use Rattle.render_array.proofs.nodes.node_teaser.Goals as goal

pub returns : goal.returns
unfolding node_teaser pieces.article_end
returns c =
    next _ c.attach.ensures (next _ c.node_type-node_type.ensures.shows (next _ c.linked_title.ensures
    (next _ c.submitted_if.ensures (next _ c.teaser_fields.ensures c.write.ensures))))
