use Rattle.std.proofs.Common.{◌≡◌, ◌≤◌, ◌-◌, length, take}
use Rattle.site_io.specs.Told.{after}
use Rattle.site_io.proofs.whole.write_whole.Given as goal

abbrev pub invariant-pieces : goal.invariant-pieces
invariant-pieces g l = record {
  within : l.sent ≤ length l.bytes;
  told : g.O.Sink.written l.sink ≡ after (g.O.Sink.written l.fn.sink) (take l.sent l.bytes);
  faults : g.O.Sink.faults l.sink ≡ g.O.Sink.faults l.fn.sink;
}

abbrev pub decreases-pieces : goal.decreases-pieces
decreases-pieces g l = length l.bytes - l.sent
