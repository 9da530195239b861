use Rattle.std.proofs.Common.{refl}
use Rattle.std.proofs.lemmas.Result.{IfOk-weaker}
use Rattle.render_array.specs.Built.{plan_of}
use Rattle.render_array.proofs.OnBlank.{built_of}
use Rattle.render_array.proofs.building.build_for.Goals as goal

pub returns : goal.returns
returns c =
    IfOk-weaker c.finish.result _ _
    (λ b done. built_of (plan_of c.args.ask.now.path c.args.element.now) _ _ _ _ _ _ b refl c.new-canvas.ensures c.write_element-status.ensures done)
    c.finish.ensures
