use Rattle.std.proofs.Common.{take}
use Rattle.render_canvas.specs.Canvas.{AddsTags}
use Rattle.render_canvas.proofs.canvas.Canvas.all_tags.Given as goal

abbrev pub invariant-loop-tag : goal.invariant-loop-tag
invariant-loop-tag l = AddsTags l.initial.self l.self (take l.tag-index l.tags)
