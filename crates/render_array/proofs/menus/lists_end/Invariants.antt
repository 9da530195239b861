use Rattle.render_canvas.specs.Canvas.{Renders}
use Rattle.render_array.specs.Menus.{lists_end}
use Rattle.render_array.proofs.menus.lists_end.Given as goal

abbrev pub invariant-levels : goal.invariant-levels
invariant-levels l = Renders (lists_end l.counter) l.initial.canvas tt l.canvas
