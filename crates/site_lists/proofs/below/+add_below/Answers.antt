use Rattle.std.proofs.Common.{◌≡◌, ◌∙◌, ◌-◌, List, suc, sym, ap, fold, arith, flat_map, map}
use Rattle.std.specs.BTreeSet.{insert_key}
use Rattle.std.specs.Ordering.{nat_cmp}
use Rattle.row_keys.specs.declared.rank.ParentKey.{ParentKey}
use Rattle.site_lists.specs.Below.{below, ids_under}
use Rattle.site_lists.proofs.below.+add_below.Goals as goal

pub returns : goal.returns
returns t c =
    let levels = c.args.levels in
    let some = c.if-levels-eq0.false in
    let high : levels ≡ suc (levels - 1) = omega arith in
    let rows = c.args.state.now.rows in
    let under = below (ids_under rows) (levels - 1) in
    sym (ap (λ (ks : List ParentKey). fold (insert_key nat_cmp) c.children.terms.keys (flat_map under (map (λ k. k.id) ks))) c.in-None.ensures.steps.0)
    ∙ c.children.invariant
    ∙ ap (λ ks. fold (insert_key nat_cmp) ks (flat_map under (ids_under rows c.args.term))) c.in_ok-insert.ensures.keys
    ∙ ap (λ n. fold (insert_key nat_cmp) c.args.terms.now.keys (below (ids_under rows) n c.args.term)) (sym high)
