use Rattle.std.proofs.Common.{◌≡◌, ◌-◌, length}
use Rattle.serve_store.specs.Stations.{DoorsBack}
use Rattle.serve_store.proofs.doors.give_back.Given as goal

-- so many were given back
abbrev pub invariant-stations : goal.invariant-stations
invariant-stations g l = record {
  back : DoorsBack l.yielded (g.P.Place.sees l.fn.place) (g.P.Place.sees l.place);
  out : (g.P.Place.sees l.place).doors_out ≡ (g.P.Place.sees l.fn.place).doors_out - length l.yielded;
}
