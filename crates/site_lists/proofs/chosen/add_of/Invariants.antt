use Rattle.std.proofs.Common.{◌≡◌, ◌+◌, ◌≤◌, fold, take, length, flat_map}
use Rattle.std.specs.BTreeSet.{insert_key}
use Rattle.std.specs.List.{filter}
use Rattle.site_lists.specs.Chosen.{passes, ranks_typed}
use Rattle.site_lists.specs.Listed.{rank_cmp}
use Rattle.site_lists.proofs.chosen.add_of.Given as goal

-- the nodes of the types so far are there
abbrev pub invariant-types : goal.invariant-types
invariant-types g l =
    let rows = l.asked.state.now.rows in
    let p = passes rows l.asked.listing.now l.asked.moment in
    let so_far = flat_map (ranks_typed rows) (take l.node_type-index l.types) in
    record {
      ranks : l.ranks.keys ≡ fold (insert_key rank_cmp) l.fn.ranks.keys (filter p so_far);
      reads : l.reads ≤ l.fn.reads + length so_far;
    }
