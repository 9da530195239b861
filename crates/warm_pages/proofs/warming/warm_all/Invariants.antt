use Rattle.std.proofs.Common.{take}
use Rattle.kept_pages.specs.Houses.{Steady}
use Rattle.kept_pages.specs.Held.{Shelves, IsTold}
use Rattle.warm_pages.specs.Warm.{Warms}
use Rattle.warm_pages.proofs.warming.warm_all.Given as goal

abbrev pub invariant-loop-target : goal.invariant-loop-target
invariant-loop-target g l = record {
  steady : Steady (g.H.House.sees l.fn.house) (g.H.House.sees l.house);
  warms : (shelves : Shelves) → IsTold (g.H.House.sees l.fn.house) shelves → Warms l.fn.state l.fn.now (take l.target-index l.fn.targets) shelves (g.H.House.sees l.house);
}
