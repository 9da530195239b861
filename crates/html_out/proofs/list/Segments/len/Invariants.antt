use Rattle.std.proofs.Common.{◌≡◌, ◌≤◌, ◌+◌, ◌*◌, drop}
use Rattle.html_out.specs.Part.{text_length}
use Rattle.html_out.specs.Segment.{parts_of}
use Rattle.html_out.proofs.list.Segments.len.Given as goal

abbrev pub invariant-loop-segment : goal.invariant-loop-segment
invariant-loop-segment g l = record {
  counted : l.total + text_length (parts_of (drop l.segment-index l.segment-items)) ≡ text_length l.self;
  fits : l.total ≤ l.segment-index * 18446744073709551616;
}
