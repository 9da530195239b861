use Rattle.std.proofs.Common.{◌≡◌, ◌-◌, length}
use Rattle.std.specs.Vec.{vec_len, vec_capacity}
use Rattle.site_serve.specs.Working.{footing_of, members}
use Rattle.site_serve.proofs.crew.crew_of.Given as goal

-- one of the crew for each station so far
abbrev pub invariant-stations : goal.invariant-stations
invariant-stations g l = record {
  crew : l.crew.items ≡ members (footing_of l.fn.site l.fn.claims) 0 l.yielded;
  many : vec_len l.crew ≡ length l.yielded;
  room : vec_capacity l.crew ≡ vec_capacity l.fn.crew;
  site : l.site ≡ record l.fn.site { founder = record l.fn.site.founder { made = length l.yielded } };
  claims : l.claims ≡ record l.fn.claims { room = 16 - length l.yielded };
}
