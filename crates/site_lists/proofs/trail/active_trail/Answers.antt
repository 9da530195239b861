use Rattle.std.proofs.Common.{◌∙◌}
use Rattle.std.proofs.lemmas.Result.{IfOk-weaker}
use Rattle.site_lists.specs.MenuPlaces.{trail_to}
use Rattle.site_lists.proofs.trail.active_trail.Goals as goal

pub returns : goal.returns
returns c = IfOk-weaker c.trail_to.result _ _ (λ ids e. e ∙ (λ i. trail_to (c.as_slice.ensures i) (c.target.ensures i))) c.trail_to.ensures
