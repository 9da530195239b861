use Rattle.std.proofs.lemmas.Result.{IfOk-weaker}
use Rattle.std.specs.Arc.{arc_value}
use Rattle.cache_contexts.specs.Values.{visit_on}
use Rattle.late_pages.proofs.Told.{tells_no_part, tells_fragment}
use Rattle.late_pages.proofs.part.late_part.Goals as goal

pub returns-in_ok-with_capacity-in-Meta-clause-told : goal.returns-in_ok-with_capacity-in-Meta-clause-told
returns-in_ok-with_capacity-in-Meta-clause-told g c = tells_no_part _ _ c.args.hole.now _ c.in-Meta.is

pub returns-in_ok-child-in-Fragment-clause-told : goal.returns-in_ok-child-in-Fragment-clause-told
returns-in_ok-child-in-Fragment-clause-told g c =
    IfOk-weaker c.whole_part.result _ _
    (λ p same. tells_fragment _ (visit_on c.args.state.now c.args.viewer.now c.args.ask.now c.args.now) c.in-Fragment.fragment c.args.hole.now (arc_value c.in_ok-child-in-Fragment.child.entry) _ _ c.in_ok-child-in-Fragment.child.built p.built c.in-Fragment.is same
    (rw (c.new-reader.ensures, c.in_ok-account-in-Fragment.ensures.viewer_is) at c.in_ok-child-in-Fragment.ensures.told))
    c.whole_part.ensures.built
