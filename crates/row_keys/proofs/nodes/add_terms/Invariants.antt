use Rattle.std.proofs.Common.{◌≡◌, ◌++◌, take}
use Rattle.row_keys.specs.Keys.{term_keys_of}
use Rattle.row_keys.proofs.nodes.add_terms.Given as goal

abbrev pub invariant-terms : goal.invariant-terms
invariant-terms l = l.found.items ≡ l.fn.found.items ++ term_keys_of l.rank (take l.term-index l.terms)
