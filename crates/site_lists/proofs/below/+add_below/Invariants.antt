use Rattle.std.proofs.Common.{◌≡◌, ◌-◌, fold, map, flat_map}
use Rattle.std.specs.BTreeSet.{insert_key}
use Rattle.std.specs.Ordering.{nat_cmp}
use Rattle.site_lists.specs.Below.{below, ids_under}
use Rattle.site_lists.proofs.below.+add_below.Given as goal

abbrev pub decreases-add_below : goal.decreases-add_below
decreases-add_below l = l.levels

-- with what stands below those that are left, all is there
abbrev pub invariant-children : goal.invariant-children
invariant-children l =
    let under = below (ids_under l.state.rows) (l.levels - 1) in
    fold (insert_key nat_cmp) l.terms.keys (flat_map under (map (λ k. k.id) l.child-iterator))
    ≡ fold (insert_key nat_cmp) l.initial.terms.keys (flat_map under (ids_under l.state.rows l.term))
