use Rattle.std.proofs.Common.{refl, arith}
use Rattle.render_canvas.proofs.Run.{wrote}
use Rattle.render_canvas.proofs.canvas.Canvas.write.Goals as goal

pub returns-else-is_err : goal.returns-else-is_err
returns-else-is_err c = rw (← c.self.view_is) (wrote c.args.bytes.now _ _ refl refl refl refl refl (grind arith))
