use Rattle.std.proofs.Common.{◌≡◌, take}
use Rattle.std.specs.Arc.{arc_value}
use Rattle.html_out.specs.Segment.{parts_of}
use Rattle.renderer.specs.Filled.{text_of}
use Rattle.renderer.proofs.parts.shared_text.Given as goal

abbrev pub invariant-loop-part : goal.invariant-loop-part
invariant-loop-part l = l.text ≡ text_of (arc_value l.meta) (parts_of (take l.part-index l.parts))
