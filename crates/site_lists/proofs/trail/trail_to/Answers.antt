use Rattle.std.proofs.Common.{◌≡◌, ◌∙◌, sym, ap, subst}
use Rattle.std.specs.Prelude.{None, Some, IfSome, option_map}
use Rattle.std.specs.List.{find}
use Rattle.std.specs.Str.{bytes_eq}
use Rattle.std.proofs.lemmas.Result.{IfOk-weaker}
use Rattle.content_state.specs.Context.{preorder, upward}
use Rattle.site_lists.proofs.Menus.{nowhere}
use Rattle.site_lists.proofs.trail.trail_to.Goals as goal

pub returns-in-Some : goal.returns-in-Some
returns-in-Some c =
    let found = subst (λ o. IfSome o (λ id. option_map (λ l. l.id) (find (λ l. bytes_eq l.path c.args.path.now) (preorder 9 c.args.links.now None)) ≡ Some id)) c.in-Some.is c.only_first.ensures in
    IfOk-weaker c.upward.result _ _ (λ ids e. e ∙ ap (upward 9 c.args.links.now) (sym found)) c.upward.ensures

pub returns-then-not-has_link_to : goal.returns-then-not-has_link_to
returns-then-not-has_link_to c = c.new.ensures.items ∙ nowhere c.args.path.now c.args.links.now (sym c.if-not-has_link_to.ensures)
