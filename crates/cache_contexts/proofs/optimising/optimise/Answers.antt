use Rattle.std.proofs.lemmas.Result.{IfOk-weaker}
use Rattle.cache_contexts.proofs.Optimised.{leaves_out, covers}
use Rattle.cache_contexts.proofs.optimising.optimise.Goals as goal

pub returns-clause-leaves_out : goal.returns-clause-leaves_out
returns-clause-leaves_out c = IfOk-weaker c.optimised.result _ _ (λ said is. leaves_out c.args.state.now c.args.viewer.now c.args.contexts.now said is) c.optimised.ensures

pub returns-clause-covers : goal.returns-clause-covers
returns-clause-covers c = IfOk-weaker c.optimised.result _ _ (λ said is. covers c.args.state.now c.args.viewer.now c.args.contexts.now said is) c.optimised.ensures
