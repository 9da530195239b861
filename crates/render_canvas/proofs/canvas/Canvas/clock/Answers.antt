use Rattle.std.proofs.Common.{refl, ap, arith}
use Rattle.render_canvas.proofs.Run.{read_clock}
use Rattle.render_canvas.proofs.canvas.Canvas.clock.Goals as goal

pub returns : goal.returns
returns c = rw (← c.self.view_is)
    (read_clock c.args.age _ _ refl refl refl refl (ap (λ x. x.tags) c.limit_age.ensures) (ap (λ x. x.contexts) c.limit_age.ensures) (grind arith) (grind arith) (ap (λ x. x.max_age) c.limit_age.ensures))
