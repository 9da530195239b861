use Rattle.serde_json.specs.View.{view}
use Rattle.keeper_sqlite.proofs.Bodies.{a_value, no_value}
use Rattle.keeper_sqlite.proofs.body.value_of.Goals as goal

pub returns-in-Ok : goal.returns-in-Ok
returns-in-Ok c = a_value c.args.body.now (view c.in-Ok.value) c.in-Ok.ensures.ok.0 c.in-Ok.ensures.ok.1

pub returns-else-is_memory : goal.returns-else-is_memory
returns-else-is_memory c =
    no_value c.args.body.now (c.in-Err.ensures.err (λ memory. let yes = c.is_memory.ensures.1 memory in let no = c.if-is_memory.false in absurd cc))
