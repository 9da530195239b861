use Rattle.std.proofs.Common.{◌∙◌}
use Rattle.content_state.specs.Plan.{folded}
use Rattle.site_lists.specs.MenuPlaces.{places_of}
use Rattle.render_array.specs.Menus.{with_shown, none_shown}
use Rattle.render_array.proofs.MenuLaws.{shown_by}
use Rattle.render_canvas.proofs.Run.{failed}
use Rattle.render_array.proofs.menus.shown_of.Goals as goal

pub returns-in-Ok : goal.returns-in-Ok
returns-in-Ok c = shown_by c.as_slice.ensures (c.as_slice-in-Ok.ensures.value ∙ c.in-Ok.ensures.exact) c.shown_among.ensures

pub returns-in-Err : goal.returns-in-Err
returns-in-Err c = failed (folded (with_shown c.args.menu.now.links) none_shown (places_of c.args.menu.now.links)) _ c.fail.ensures
