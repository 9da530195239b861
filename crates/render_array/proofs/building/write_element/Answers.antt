use Rattle.render_array.specs.Page.{page}
use Rattle.render_canvas.proofs.Run.{next, done, over_text}
use Rattle.render_array.proofs.building.write_element.Goals as goal

pub returns-in-Page : goal.returns-in-Page
returns-in-Page c = rw c.in-Page.is (next _ (over_text page c.page.ensures c.as_slice.ensures) done)

pub returns-in-Fragment : goal.returns-in-Fragment
returns-in-Fragment c = rw c.in-Fragment.is (next _ c.fragment_shown.ensures done)
