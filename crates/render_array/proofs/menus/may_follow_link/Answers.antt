use Rattle.render_array.specs.Menus.{may_follow}
use Rattle.render_canvas.proofs.Run.{over_text, done}
use Rattle.render_array.proofs.menus.may_follow_link.Goals as goal

pub returns-in-Some : goal.returns-in-Some
returns-in-Some c = rw c.in-Some.is (over_text may_follow c.may_follow.ensures c.as_slice.ensures)

pub returns-in-None : goal.returns-in-None
returns-in-None c = rw c.in-None.is done
