use Rattle.std.proofs.Common.{refl, arith}
use Rattle.render_canvas.proofs.Run.{attached}
use Rattle.render_canvas.proofs.canvas.Canvas.attach.Goals as goal

pub returns-else-is_err : goal.returns-else-is_err
returns-else-is_err c = rw (← c.self.view_is) (attached c.args.library _ _ refl refl refl refl refl (grind arith))
