use Rattle.std.proofs.Common.{refl, arith}
use Rattle.render_canvas.proofs.Run.{opened}
use Rattle.render_canvas.proofs.canvas.Canvas.open.Goals as goal

pub returns-else-is_err : goal.returns-else-is_err
returns-else-is_err c = rw (← c.self.view_is) (opened c.args.hole _ _ refl refl refl refl refl (grind arith))
