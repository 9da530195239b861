use Rattle.std.proofs.Common.{◌≡◌, map, length}
use Rattle.std.specs.Vec.{vec_len, vec_capacity}
use Rattle.site_serve.specs.Working.{member_of}
use Rattle.site_serve.proofs.crew.workers_of.Given as goal

-- a worker of each of the crew so far
abbrev pub invariant-crew : goal.invariant-crew
invariant-crew g l = record {
  workers : map member_of l.workers.items ≡ l.yielded;
  many : vec_len l.workers ≡ length l.yielded;
  room : vec_capacity l.workers ≡ vec_capacity l.fn.workers;
}
