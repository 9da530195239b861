use Rattle.std.proofs.Common.{◌≡◌, length}
use Rattle.std.specs.Vec.{vec_capacity}
use Rattle.serve_store.specs.Stations.{StationsGiven}
use Rattle.serve_store.proofs.doors.open_stations.Given as goal

-- so many were opened
abbrev pub invariant-stations : goal.invariant-stations
invariant-stations g l = record {
  given : StationsGiven l.address l.stations.items (g.P.Place.sees l.fn.place) (g.P.Place.sees l.place);
  many : length l.stations.items ≡ l.opened;
  room : vec_capacity l.stations ≡ vec_capacity l.fn.stations;
}
