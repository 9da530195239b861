use Rattle.std.proofs.Common.{[], ◌≡◌, ◌++◌, drop}
use Rattle.html_out.specs.Segment.{parts_of}
use Rattle.kept_pages.specs.Compact.{compacted}
use Rattle.kept_pages.proofs.compact.in_few_pieces.Given as goal

abbrev pub invariant-loop-part : goal.invariant-loop-part
invariant-loop-part l = l.few ++ compacted l.text.items (parts_of (drop l.part-index l.part-items)) ≡ compacted [] l.segments
