use Rattle.keeper_sqlite.proofs.finding.take_row.Goals as goal

pub returns-in_ok-add_row-in-Some-clause-right : goal.returns-in_ok-add_row-in-Some-clause-right
returns-in_ok-add_row-in-Some-clause-right c = c.in_ok-add_row-in-Some.ensures.right
