use Rattle.std.proofs.lemmas.Slice.Eq.{slice_eq-Decides}
use Rattle.cache_contexts.specs.SameLaws.{context_value_decided}
use Rattle.cache_entries.proofs.entry.same_values.Goals as goal

pub returns : goal.returns
returns c = slice_eq-Decides context_value_decided c.args.one.now c.args.two.now c.eq.result c.eq.ensures
