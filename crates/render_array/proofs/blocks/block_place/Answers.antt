use Rattle.render_array.specs.Blocks.{block_place}
use Rattle.render_canvas.proofs.Run.{next, done, if_true, if_false}
use Rattle.render_array.proofs.blocks.block_place.Goals as goal

pub returns-in_default : goal.returns-in_default
unfolding block_place
returns-in_default c = next _ c.in_default.ensures.shows done

pub returns-then-visible : goal.returns-then-visible
unfolding block_place
returns-then-visible c = next _ c.in-Some.ensures.shows (next _ c.visible.ensures (if_true _ c.if-visible.true c.open.ensures))

pub returns-else-visible : goal.returns-else-visible
unfolding block_place
returns-else-visible c = next _ c.in-Some.ensures.shows (next _ c.visible.ensures (if_false _ c.if-visible.false done))
