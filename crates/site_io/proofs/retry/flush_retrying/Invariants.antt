use Rattle.std.proofs.Common.{◌≡◌, ◌++◌, List, Bool}
use Rattle.std.specs.Io.KnownBytes.{Keeps}
use Rattle.site_io.specs.Adapters.{flushes_of}
use Rattle.site_io.proofs.retry.flush_retrying.Given as goal

abbrev pub invariant-tries : goal.invariant-tries
invariant-tries g l = record {
  bytes : Keeps (g.W.Write.contents l.initial.writer) (g.W.Write.contents l.writer);
  failed : List Bool;
  flushes : flushes_of l.flushes.items ≡ flushes_of l.fn.flushes.items ++ failed;
}
