use Rattle.std.proofs.Common.{List, ℕ, ◌∙◌, ap, map, flat_map, sym}
use Rattle.std.specs.List.{filter}
use Rattle.std.proofs.lemmas.Result.{IfOk-weaker}
use Rattle.row_keys.specs.declared.rank.NodeRank.{NodeRank}
use Rattle.site_lists.specs.Chosen.{passes, ranks_with}
use Rattle.site_lists.specs.Listed.{in_order, rank_cmp}
use Rattle.site_lists.proofs.OneIndex.{termed_stay}
use Rattle.site_lists.proofs.chosen.chosen_within.Goals as goal

pub returns-then-is_alone-clause-ids : goal.returns-then-is_alone-clause-ids
returns-then-is_alone-clause-ids g c =
    let rows = c.args.asked.now.state.now.rows in
    let p = passes rows c.args.asked.now.listing.now c.args.asked.now.moment in
    IfOk-weaker c.nodes_with.result _ _
    (λ ids e.
    e
    ∙ ap (map (λ (r : NodeRank). r.id.0)) (termed_stay rows p c.args.top ∙ ap (λ (us : List ℕ). in_order rank_cmp (filter p (flat_map (ranks_with rows) us))) (sym (c.is_alone.ensures c.if-is_alone.true))))
    c.nodes_with.ensures.ids
