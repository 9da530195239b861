use Rattle.std.proofs.Common.{◌≡◌, fold, take}
use Rattle.cacheability.specs.Cacheability.{always_same}
use Rattle.cache_contexts.specs.Optimised.{visit_by, taken_in}
use Rattle.cache_contexts.proofs.optimising.optimised.Given as goal

-- so far the contexts so far are taken in
abbrev pub invariant-contexts : goal.invariant-contexts
invariant-contexts l = l.said ≡ fold (taken_in (visit_by l.state l.viewer) l.contexts) always_same (take l.context-index l.contexts)
