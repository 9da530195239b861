use Rattle.render_array.specs.Blocks.{block_shown}
use Rattle.render_canvas.proofs.Run.{next, done}
use Rattle.render_array.proofs.blocks.block_shown.Goals as goal

pub returns-in-Some : goal.returns-in-Some
unfolding block_shown
returns-in-Some c = next _ c.in-Some.ensures.shows c.block_view.ensures

pub returns-in_default : goal.returns-in_default
unfolding block_shown
returns-in_default c = next _ c.in_default.ensures.shows done
