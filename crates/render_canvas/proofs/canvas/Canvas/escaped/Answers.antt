use Rattle.std.proofs.Common.{refl, arith}
use Rattle.render_canvas.proofs.Run.{wrote_escaped}
use Rattle.render_canvas.proofs.canvas.Canvas.escaped.Goals as goal

pub returns-else-is_err : goal.returns-else-is_err
returns-else-is_err c = rw (← c.self.view_is) (wrote_escaped c.args.text.now _ _ refl refl refl refl refl (grind arith))
