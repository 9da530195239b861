use Rattle.std.proofs.Common.{sym, ◌∙◌, ap}
use Rattle.std.specs.Prelude.{nat_le}
use Rattle.std.proofs.lemmas.Bool.{le-leb, lt-leb}
use Rattle.render_array.specs.Menus.{Shown, with_shown}
use Rattle.render_array.proofs.MenuLaws.{follows_by}
use Rattle.render_canvas.proofs.Run.{next, done, if_true, if_false}
use Rattle.render_array.proofs.menus.add_if_shown.Goals as goal

pub returns-then-place-found : goal.returns-then-place-found
unfolding with_shown
returns-then-place-found c =
    if_false _ (ap (λ (found : Shown). nat_le c.args.place.depth found.deepest) (sym c.found.view_is) ∙ lt-leb _ _ c.if-place-found.true) done

pub returns : goal.returns
unfolding with_shown
returns c =
    if_true _ (ap (λ (found : Shown). nat_le c.args.place.depth found.deepest) (sym c.found.view_is) ∙ le-leb _ _ c.if-place-found.false)
    (next _ (follows_by _ _ c.get.result c.get.ensures.lookup c.may_follow_link-follows.ensures) c.add_place.ensures)
