use Rattle.std.proofs.Common.{◌∙◌, ap}
use Rattle.indexed_rows.specs.Rows.{menu_of}
use Rattle.render_array.specs.Menus.{Shown, menu_view}
use Rattle.render_array.specs.Pieces as pieces
use Rattle.render_array.proofs.MenuLaws.{links_by}
use Rattle.render_canvas.proofs.Run.{next}
use Rattle.render_array.proofs.menus.menu_view.Goals as goal

pub trail-trail-requires : goal.trail-trail-requires
trail-trail-requires c = ap (λ v. menu_of v.rows c.args.name) c.attach.ensures.visit ∙ c.requires

pub returns : goal.returns
unfolding menu_view pieces.menu_start pieces.menu_end
returns c =
    next _ c.attach.ensures (next _ c.trail-trail.ensures (next _ c.shown_of-found.ensures (next _ c.write.ensures
    (next _ (links_by c.as_slice.ensures.value c.as_slice-2.ensures (c.as_slice-3.ensures.value ∙ ap (λ (found : Shown). found.places) c.found.view_is) c.links_shown.ensures) c.write-2.ensures))))
