use Rattle.std.proofs.Common.{◌↔◌, IsTrue, subst}
use Rattle.cache_entries.specs.Entries.{IsFreshBy}
use Rattle.cache_entries.proofs.entry.fresh.Goals as goal

pub returns-clause-exact : goal.returns-clause-exact
returns-clause-exact c = λ viewer ask are. subst (λ vs. IsTrue c.is_fresh_by.result ↔ IsFreshBy c.args.state.now vs c.args.moment c.args.entry.now) are c.is_fresh_by.ensures
