use Rattle.render_array.specs.Blocks.{block_view, block_label}
use Rattle.render_array.specs.Pieces as pieces
use Rattle.render_canvas.proofs.Run.{next, over_text}
use Rattle.render_array.proofs.blocks.block_view.Goals as goal

pub returns : goal.returns
unfolding block_view pieces.block_start pieces.block_end
returns c = next _ c.write.ensures (next _ (over_text block_label c.block_label.ensures c.as_slice.ensures) (next _ c.body_of_kind.ensures c.write-2.ensures))
