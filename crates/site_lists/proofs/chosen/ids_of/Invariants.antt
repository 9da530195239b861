use Rattle.std.proofs.Common.{◌≡◌, ◌++◌, map}
use Rattle.site_lists.proofs.chosen.ids_of.Given as goal

abbrev pub invariant-ranks : goal.invariant-ranks
invariant-ranks l = l.ids.items ++ map (λ r. r.id.0) l.rank-iterator ≡ map (λ r. r.id.0) l.ranks.keys
