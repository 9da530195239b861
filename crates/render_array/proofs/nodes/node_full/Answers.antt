use Rattle.render_array.specs.Nodes.{node_full}
use Rattle.render_array.specs.Pieces as pieces
use Rattle.render_canvas.proofs.Run.{next}
use Rattle.render_array.proofs.nodes.node_full.Goals as goal

pub returns : goal.returns
unfolding node_full pieces.article_start pieces.article_end
returns c =
    next _ c.attach.ensures (next _ c.node_type-node_type.ensures.shows (next _ c.write.ensures (next _ c.submitted_if.ensures
    (next _ c.fields.ensures (next _ c.terms.ensures (next _ c.refs.ensures (next _ c.comments.ensures c.write-2.ensures)))))))
