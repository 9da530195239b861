use Rattle.std.proofs.Common.{List, ℕ, [], ◌∷◌, ◌≡◌, ◌<◌, ◌∙◌, ap, arith, length, map, subst, sym}
use Rattle.std.specs.List.{filter}
use Rattle.std.proofs.lemmas.Result.{IfOk-weaker}
use Rattle.row_keys.specs.declared.rank.NodeRank.{NodeRank}
use Rattle.content_state.specs.Ranked.{published}
use Rattle.site_lists.specs.Chosen.{passes, ranks_among}
use Rattle.site_lists.specs.Listed.{in_order, rank_cmp}
use Rattle.site_lists.proofs.OneIndex.{all_stay, among_all, one_type, typed_same, typed_stay}
use Rattle.site_lists.proofs.chosen.chosen.Goals as goal

pub returns-in-empty-clause-ids : goal.returns-in-empty-clause-ids
returns-in-empty-clause-ids g c =
    let rows = c.args.asked.now.state.now.rows in
    let listing = c.args.asked.now.listing.now in
    let p = passes rows listing c.args.asked.now.moment in
    let few : length c.as_slice.result.now < 1 = omega (arith, c.in-empty.len_below) in
    let none : length listing.types < 1 = subst (λ (ts : List (List ℕ)). length ts < 1) c.as_slice.ensures few in
    let among : ranks_among rows listing.term listing.types ≡ published rows = ap (λ term. ranks_among rows term listing.types) c.in-None.is ∙ among_all rows listing.types none in
    IfOk-weaker c.all_nodes.result _ _
    (λ ids e. e ∙ ap (map (λ (r : NodeRank). r.id.0)) (all_stay rows p ∙ ap (λ ranks. in_order rank_cmp (filter p ranks)) (sym among)))
    c.all_nodes.ensures.ids

pub returns-in-len1-clause-ids : goal.returns-in-len1-clause-ids
returns-in-len1-clause-ids g c =
    let rows = c.args.asked.now.state.now.rows in
    let listing = c.args.asked.now.listing.now in
    let moment = c.args.asked.now.moment in
    let p = passes rows listing moment in
    let type = c.node_type-item.result in
    let one : length c.as_slice.result.now ≡ 1 = omega (arith, c.in-len1.len_at_least, c.in-len1.len_below) in
    let only : listing.types ≡ type ∷ [] = sym c.as_slice.ensures ∙ one_type c.as_slice.result.now type one c.node_type-item.is in
    IfOk-weaker c.nodes_of.result _ _
    (λ ids e.
    e
    ∙ ap (map (λ (r : NodeRank). r.id.0)) (
    typed_same rows listing moment type only c.stands_in_order.ensures.rows
    ∙ typed_stay rows p type
    ∙ (λ i. in_order rank_cmp (filter p (ranks_among rows (sym c.in-None.is i) (sym only i))))))
    c.nodes_of.ensures.ids
