use Rattle.std.proofs.Common.{ℕ, List, length, subst, arith}
use Rattle.serve_store.proofs.Places.{none_out}
use Rattle.serve_store.proofs.Served.{as_many, failed_after, unused_after, worked}
use Rattle.serve_store.specs.Job.{PrintsCount}
use Rattle.serve_store.proofs.job.work_stations.Goals as goal

pub serve_all-requires-clause-none_out : goal.serve_all-requires-clause-none_out
serve_all-requires-clause-none_out g c κs within = none_out _ c.requires.stations

pub close-requires-clause-out : goal.close-requires-clause-out
close-requires-clause-out g c = let many = as_many _ _ _ _ _ _ c.in-Ok.ensures.served in let out = c.requires.out in omega arith

pub close-requires-clause-unused : goal.close-requires-clause-unused
close-requires-clause-unused g c κs within = unused_after _ _ _ _ _ _ c.in-Ok.ensures.served c.requires.stations

pub close-requires-clause-failed : goal.close-requires-clause-failed
close-requires-clause-failed g c κs within = failed_after _ _ _ _ _ _ c.in-Ok.ensures.served c.requires.stations

pub returns-in-Ok-clause-does : goal.returns-in-Ok-clause-does
returns-in-Ok-clause-does g c =
    worked _ _ _ _ _ _ _ _ _ _ c.in-Ok.ensures.served c.in-Ok.ensures.goes_on c.in-Ok.ensures.is_hall c.in-Ok.ensures.all c.in-Ok.ensures.fewer c.close.ensures.back
    (subst (λ (t : List ℕ). PrintsCount c.in-Ok.served.whole t c.close.result (g.P.Out.Sink.written c.args.output.now) (g.P.Out.Sink.written c.close.new.output)) c.requires.closing c.close.ensures.prints)
