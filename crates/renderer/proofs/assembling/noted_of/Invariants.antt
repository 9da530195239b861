use Rattle.std.proofs.Common.{drop}
use Rattle.renderer.proofs.Noting.{AreToBe}
use Rattle.renderer.proofs.assembling.noted_of.Given as goal

abbrev pub invariant-loop-library : goal.invariant-loop-library
invariant-loop-library l = AreToBe l.noted (drop l.library-index l.attached) l.attached
