use Rattle.render_array.specs.Pieces as pieces
use Rattle.render_array.proofs.MenuLaws.{ended_more}
use Rattle.render_canvas.proofs.Run.{done}
use Rattle.render_array.proofs.menus.lists_end.Goals as goal

pub levels-init : goal.levels-init
levels-init c = done

pub levels-preserved : goal.levels-preserved
unfolding pieces.submenu_end
levels-preserved c = ended_more _ c.levels.invariant c.write.ensures
