use Rattle.kept_pages.proofs.Entries.{steady_on, steady_same, seen_on}
use Rattle.warm_pages.proofs.Warmed.{warms_none, warms_next, warms_all}
use Rattle.warm_pages.proofs.warming.warm_all.Goals as goal

pub loop-target-init : goal.loop-target-init
loop-target-init g c = record {
  steady = steady_same (g.H.House.sees c.args.house.now);
  warms = λ shelves told. warms_none c.args.state.now c.args.now (g.H.House.sees c.args.house.now) shelves told;
}

pub warm_page-requires : goal.warm_page-requires
warm_page-requires g c = seen_on _ _ _ c.loop-target.invariant.steady.moves c.requires

pub returns-in_err-warm_page-clause-steady : goal.returns-in_err-warm_page-clause-steady
returns-in_err-warm_page-clause-steady g c = steady_on c.loop-target.invariant.steady c.warm_page.ensures.steady

pub loop-target-preserved : goal.loop-target-preserved
loop-target-preserved g c = record {
  steady = steady_on c.loop-target.invariant.steady c.in_ok-warm_page.ensures.steady;
  warms = λ shelves told.
      warms_next c.args.state.now c.args.now c.args.targets.now c.loop-target.target-index c.target-item.result shelves _ _ c.loop-target-test.true c.target-item.is
      (c.loop-target.invariant.warms shelves told) c.in_ok-warm_page.ensures.renders;
}

pub returns-clause-warms : goal.returns-clause-warms
returns-clause-warms g c shelves told =
    warms_all c.args.state.now c.args.now c.args.targets.now c.loop-target.target-index shelves _ c.loop-target-test.false (c.loop-target.invariant.warms shelves told)
