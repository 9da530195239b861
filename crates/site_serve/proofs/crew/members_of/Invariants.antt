use Rattle.std.proofs.Common.{◌≡◌, map, length}
use Rattle.std.specs.Vec.{vec_len, vec_capacity}
use Rattle.site_serve.specs.Working.{member_of}
use Rattle.site_serve.proofs.crew.members_of.Given as goal

-- one of the crew of each worker so far
abbrev pub invariant-workers : goal.invariant-workers
invariant-workers g l = record {
  crew : l.crew.items ≡ map member_of l.yielded;
  many : vec_len l.crew ≡ length l.yielded;
  room : vec_capacity l.crew ≡ vec_capacity l.fn.crew;
}
