use Rattle.std.proofs.Common.{◌≡◌, ◌+◌, ◌++◌, length, map}
use Rattle.std.specs.List.{filter}
use Rattle.content_state.specs.Ranked.{published_with}
use Rattle.site_lists.specs.Chosen.{passes}
use Rattle.site_lists.proofs.one_index.nodes_with.Given as goal

-- with those that are left, all are there, and all are read
abbrev pub invariant-keys : goal.invariant-keys
invariant-keys g l =
    let rows = l.asked.state.now.rows in
    let p = passes rows l.asked.listing.now l.asked.moment in
    record {
      ids : l.ids.items ++ map (λ r. r.id.0) (filter p (map (λ k. k.rank) l.key-iterator)) ≡ map (λ r. r.id.0) (filter p (map (λ k. k.rank) (published_with rows l.term)));
      reads : l.reads + length l.key-iterator ≡ l.fn.reads + length (published_with rows l.term);
    }
