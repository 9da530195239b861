use Rattle.std.proofs.Common.{◌≡◌, map, take}
use Rattle.cache_contexts.specs.Values.{visit_on, valued}
use Rattle.cache_contexts.proofs.valuing.values.Given as goal

abbrev pub invariant-contexts : goal.invariant-contexts
invariant-contexts l = l.found.items ≡ map (valued (visit_on l.state l.account.viewer l.ask 0)) (take l.context-index l.contexts)
