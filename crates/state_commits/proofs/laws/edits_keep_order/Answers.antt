use Rattle.state_commits.proofs.Logs as laws
use Rattle.state_commits.proofs.laws.edits_keep_order.Goals as goal

pub returns-clause-step : goal.returns-clause-step
returns-clause-step c = laws.steps_keep_order

pub returns-clause-log : goal.returns-clause-log
returns-clause-log c = laws.logs_keep_order
