use Rattle.std.proofs.Common.{◌≡◌, ◌++◌, length, take}
use Rattle.html_out.specs.Segment.{parts_of}
use Rattle.html_out.proofs.list.add_all.Given as goal

abbrev pub invariant-loop-segment : goal.invariant-loop-segment
invariant-loop-segment g l = record {
  said : parts_of l.all.items ≡ parts_of l.fn.all.items ++ parts_of (take l.segment-index l.segments);
  front : take (length l.fn.all.items) l.all.items ≡ l.fn.all.items;
}
