use Rattle.std.proofs.Common.{◌≡◌, take}
use Rattle.html_out.specs.Segment.{joined}
use Rattle.site_io.specs.Told.{after}
use Rattle.site_late.proofs.pieces.write_parts.Given as goal

abbrev pub invariant-loop-part : goal.invariant-loop-part
invariant-loop-part g l = record {
  told : g.O.Sink.written l.sink ≡ after (g.O.Sink.written l.fn.sink) (joined (take l.part-index l.parts));
  faults : g.O.Sink.faults l.sink ≡ g.O.Sink.faults l.fn.sink;
}
