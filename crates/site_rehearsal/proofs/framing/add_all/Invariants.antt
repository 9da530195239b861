use Rattle.std.proofs.Common.{take}
use Rattle.html_out.specs.Segment.{parts_of}
use Rattle.render_canvas.specs.Board.{pieces_of}
use Rattle.renderer.specs.Filled.{Joins}
use Rattle.site_rehearsal.specs.Visitors.{visit}
use Rattle.site_rehearsal.specs.Framing.{in_frame, count_in_frame}
use Rattle.site_rehearsal.proofs.framing.add_all.Given as goal

abbrev pub invariant-loop-part : goal.invariant-loop-part
invariant-loop-part l = Joins in_frame (count_in_frame (visit l.fn.visitor)) (visit l.fn.visitor) (pieces_of (parts_of (take l.part-index l.fn.parts))) l.fn.frame l.frame
