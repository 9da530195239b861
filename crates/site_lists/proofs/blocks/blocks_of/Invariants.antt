use Rattle.std.proofs.Common.{◌≡◌, ◌++◌, map}
use Rattle.content_state.specs.Ranked.{blocks_within}
use Rattle.site_lists.proofs.blocks.blocks_of.Given as goal

-- with the names of those that are left, all are there
abbrev pub invariant-keys : goal.invariant-keys
invariant-keys l = l.names.items ++ map (λ k. k.rank.name) l.key-iterator ≡ map (λ k. k.rank.name) (blocks_within l.state.rows l.fn.region)
