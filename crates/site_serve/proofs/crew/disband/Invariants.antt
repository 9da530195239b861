use Rattle.std.proofs.Common.{◌≡◌, ◌+◌, ◌≤◌, map, length, sum_by}
use Rattle.std.specs.Vec.{vec_len, vec_capacity}
use Rattle.site_claims.specs.Claims.{as_count}
use Rattle.site_serve.specs.Working.{faulted}
use Rattle.site_serve.proofs.crew.disband.Given as goal

-- what was of the crew so far
abbrev pub invariant-crew : goal.invariant-crew
invariant-crew g l = record {
  passes : l.passes.items ≡ map (λ member. member.pass) l.yielded;
  stations : l.stations.items ≡ map (λ member. member.station) l.yielded;
  many : (vec_len l.passes ≡ length l.yielded) × (vec_len l.stations ≡ length l.yielded);
  room : (vec_capacity l.passes ≡ vec_capacity l.fn.passes) × (vec_capacity l.stations ≡ vec_capacity l.fn.stations);
  claims : l.claims ≡ record l.fn.claims { claims = l.fn.claims.claims + sum_by (λ member. member.claimer.claims) l.yielded; over = l.fn.claims.over + sum_by (λ member. as_count member.claimer.is_over) l.yielded; room = l.fn.claims.room + length l.yielded };
  failed : l.failed ≡ sum_by (λ member. faulted member.worked) l.yielded;
  few : l.failed ≤ length l.yielded;
}
