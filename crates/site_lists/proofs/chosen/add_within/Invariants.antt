use Rattle.std.proofs.Common.{◌≡◌, ◌+◌, ◌≤◌, fold, flat_map, length}
use Rattle.std.specs.BTreeSet.{insert_key}
use Rattle.std.specs.List.{filter}
use Rattle.site_lists.specs.Chosen.{passes, ranks_with}
use Rattle.site_lists.specs.Listed.{rank_cmp}
use Rattle.site_lists.proofs.chosen.add_within.Given as goal

-- with those that are left, all are there, and all are read
abbrev pub invariant-terms : goal.invariant-terms
invariant-terms g l =
    let rows = l.asked.state.now.rows in
    let p = passes rows l.asked.listing.now l.asked.moment in
    record {
      ranks : fold (insert_key rank_cmp) l.ranks.keys (filter p (flat_map (ranks_with rows) l.term-iterator)) ≡ fold (insert_key rank_cmp) l.fn.ranks.keys (filter p (flat_map (ranks_with rows) l.terms.keys));
      reads : l.reads + length (flat_map (ranks_with rows) l.term-iterator) ≤ l.fn.reads + length (flat_map (ranks_with rows) l.terms.keys);
    }
