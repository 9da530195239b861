use Rattle.render_array.specs.Blocks.{hello}
use Rattle.render_array.specs.Pieces as pieces
use Rattle.render_canvas.proofs.Run.{next, next_escaped}
use Rattle.render_array.proofs.blocks.hello.Goals as goal

pub returns : goal.returns
unfolding hello pieces.hello_start pieces.paragraph_end
returns c = next _ c.user-user.ensures.shows (next _ c.write.ensures (next_escaped _ _ _ c.escaped.ensures c.name_of_user.ensures c.write-2.ensures))
