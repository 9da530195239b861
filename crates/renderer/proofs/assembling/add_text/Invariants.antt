use Rattle.std.proofs.Common.{◌≡◌, ◌++◌, take}
use Rattle.html_out.specs.Segment.{parts_of}
use Rattle.renderer.specs.Filled.{text_of}
use Rattle.renderer.proofs.assembling.add_text.Given as goal

abbrev pub invariant-loop-part : goal.invariant-loop-part
invariant-loop-part l = l.out.items ≡ l.fn.out.items ++ text_of l.meta (parts_of (take l.part-index l.parts))
