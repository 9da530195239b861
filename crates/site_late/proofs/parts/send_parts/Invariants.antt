use Rattle.std.proofs.Common.{◌≡◌, take}
use Rattle.site_house.specs.House.{Moves, Stays}
use Rattle.site_late.specs.Parts.{WritesAll}
use Rattle.site_late.specs.Sending.{reader_of}
use Rattle.site_late.proofs.parts.send_parts.Given as goal

abbrev pub invariant-holes : goal.invariant-holes
invariant-holes g l = record {
  moves : Moves (g.H.House.sees l.fn.house) (g.H.House.sees l.house);
  stays : Stays (g.H.House.sees l.fn.house) (g.H.House.sees l.house);
  wrote : WritesAll (reader_of l.state l.ask l.now) (take l.hole-index l.holes) (g.H.House.sees l.fn.house) (g.H.House.sees l.house) (g.G.Gate.reached l.fn.gate) (g.G.Gate.reached l.gate) (g.O.Sink.written l.fn.sink) (g.O.Sink.written l.sink);
  faults : g.O.Sink.faults l.sink ≡ g.O.Sink.faults l.fn.sink;
  number : l.number ≡ l.hole-index;
}
