use Rattle.std.proofs.Common.{◌∙◌, ap}
use Rattle.std.specs.Prelude.{None}
use Rattle.std.proofs.lemmas.Result.{IfOk-weaker}
use Rattle.content_state.specs.Context.{preorder, upward}
use Rattle.site_lists.specs.MenuPlaces.{first_to}
use Rattle.site_lists.proofs.Menus.{first_is}
use Rattle.site_lists.proofs.trail.trail_by_tree.Goals as goal

pub returns : goal.returns
returns c =
    let links = c.args.links.now in
    let path = c.args.path.now in
    let same =
    c.first_to.ensures
    ∙ ap (first_to links path) c.deref.ensures.value
    ∙ first_is links path c.in_ok-places.places.items (preorder 9 links None) c.in_ok-places.ensures.order in
    IfOk-weaker c.upward.result _ _ (λ ids e. e ∙ ap (upward 9 links) same) c.upward.ensures
