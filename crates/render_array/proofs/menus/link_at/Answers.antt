use Rattle.render_canvas.proofs.Run.{done}
use Rattle.render_array.proofs.menus.link_at.Goals as goal

pub returns-in-Some : goal.returns-in-Some
returns-in-Some c = rw c.in-Some.is (rw (← c.is_active.ensures) c.link_shown.ensures)

pub returns-in_default : goal.returns-in_default
returns-in_default c = rw c.in_default.is done
