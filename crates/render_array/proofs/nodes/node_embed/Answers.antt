use Rattle.render_array.specs.Nodes.{node_embed}
use Rattle.render_array.specs.Pieces as pieces
use Rattle.render_canvas.proofs.Run.{next}
use Rattle.render_array.proofs.nodes.node_embed.Goals as goal

pub returns : goal.returns
unfolding node_embed pieces.article_end
returns c =
    next _ c.attach.ensures (next _ c.node_type-node_type.ensures.shows (next _ c.linked_title.ensures
    (next _ c.teaser_fields.ensures (next _ c.refs_below.ensures c.write.ensures))))
