use Rattle.render_canvas.proofs.Run.{next, done}
use Rattle.render_array.proofs.blocks.menu_body.Goals as goal

pub returns-in_default : goal.returns-in_default
returns-in_default c = rw c.in_default.is done

pub returns-in-Some-menu : goal.returns-in-Some-menu
returns-in-Some-menu c = rw c.in-Some.is (next _ c.in-Some-menu.ensures.shows c.open.ensures)

pub returns-in_default-menu : goal.returns-in_default-menu
returns-in_default-menu c = rw c.in-Some.is (next _ c.in_default-menu.ensures.shows done)
