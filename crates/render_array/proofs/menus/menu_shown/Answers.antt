use Rattle.render_array.specs.Menus.{menu_shown}
use Rattle.render_canvas.proofs.Run.{next, done}
use Rattle.render_array.proofs.menus.menu_shown.Goals as goal

pub returns-in-Some : goal.returns-in-Some
unfolding menu_shown
returns-in-Some c = next _ c.in-Some.ensures.shows c.menu_view.ensures

pub returns-in_default : goal.returns-in_default
unfolding menu_shown
returns-in_default c = next _ c.in_default.ensures.shows done
