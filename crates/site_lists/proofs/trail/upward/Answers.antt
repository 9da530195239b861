use Rattle.std.proofs.Common.{◌∙◌, ◌++◌, ◌+◌, ◌-◌, ap, sym}
use Rattle.content_state.specs.Context.{upward}
use Rattle.site_lists.proofs.Menus.{climbed}
use Rattle.site_lists.proofs.trail.upward.Goals as goal

pub heights-preserved : goal.heights-preserved
heights-preserved c =
    let links = c.args.links.now in
    let before = c.heights.ids.items in
    let n = c.heights.counter in
    (λ i. c.in_ok-push.ensures.items i ++ upward (9 - (n + 1)) links (c.parent_of-next.ensures i))
    ∙ climbed links c.in-Some.id before _ n c.heights-test.true (ap (λ next. before ++ upward (9 - n) links next) (sym c.in-Some.is) ∙ c.heights.invariant)
