use Rattle.std.proofs.Common.{◌≡◌, ◌≤◌, ◌*◌, length, take}
use Rattle.html_out.specs.Segment.{parts_of}
use Rattle.renderer.specs.Filled.{text_of}
use Rattle.renderer.proofs.assembling.text_len.Given as goal

-- each part added less than 2 ^ 64
abbrev pub invariant-loop-part : goal.invariant-loop-part
invariant-loop-part l = record {
  counted : l.total ≡ length (text_of l.meta (parts_of (take l.part-index l.parts)));
  fits : l.total ≤ l.part-index * 18446744073709551615;
}
