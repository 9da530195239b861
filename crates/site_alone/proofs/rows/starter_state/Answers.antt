use Rattle.std.proofs.Common.{rules}
use Rattle.std.proofs.lemmas.Result.{IfOk-weaker}
use Rattle.site_alone.proofs.Starter.{valid_as}
use Rattle.site_alone.proofs.rows.starter_state.Goals as goal

pub returns-clause-same : goal.returns-clause-same
returns-clause-same c = search rules

pub returns-clause-valid : goal.returns-clause-valid
returns-clause-valid c = IfOk-weaker _ _ _ (λ state is. valid_as state is) (returns-clause-same c)
