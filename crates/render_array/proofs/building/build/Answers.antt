use Rattle.std.proofs.Common.{subst}
use Rattle.std.proofs.lemmas.Result.{IfOk-weaker}
use Rattle.content_state.specs.declared.ask.Viewer.{Viewer}
use Rattle.render_array.specs.Built.{plan_of, Builds}
use Rattle.render_array.proofs.building.build.Goals as goal

pub returns : goal.returns
returns c =
    IfOk-weaker c.build_for.result _ _
    (λ b builds. subst (λ (viewer : Viewer). Builds (plan_of c.args.ask.now.path c.args.element.now) (record { rows = c.args.state.now.rows; viewer = viewer; ask = c.args.ask.now; moment = c.args.now }) b)
    c.in_ok-account.ensures.viewer_is builds)
    c.build_for.ensures
