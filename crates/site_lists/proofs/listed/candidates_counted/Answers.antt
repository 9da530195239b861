use Rattle.std.proofs.Common.{arith, ◌≡◌, ◌∙◌, ap, map, subst, sym}
use Rattle.std.specs.Prelude.{All, IsSome}
use Rattle.std.specs.List.{filter}
use Rattle.std.proofs.lemmas.Result.{IfOk-weaker}
use Rattle.indexed_rows.specs.Rows.{node_of, nodes_of, terms_of, InOrder}
use Rattle.row_keys.specs.declared.rank.NodeRank.{NodeRank}
use Rattle.site_lists.specs.Chosen.{passes, ranks_among}
use Rattle.site_lists.specs.Listed.{in_order, is_listed, rank_of, rank_cmp}
use Rattle.site_lists.proofs.ChosenLaws.{chosen_right, count_right}
use Rattle.site_lists.proofs.There.{candidates_there}
use Rattle.site_lists.proofs.listed.candidates_counted.Goals as goal

pub returns : goal.returns
returns g c =
    let rows = c.args.state.now.rows in
    let listing = c.args.listing.now in
    let moment = c.args.moment in
    let ordered : InOrder rows = c.stands_in_order.ensures.rows in
    let ranks : in_order rank_cmp (filter (passes rows listing moment) (ranks_among rows listing.term listing.types)) ≡ in_order rank_cmp (map rank_of (filter (λ e. is_listed (terms_of rows) listing moment e.1) (nodes_of rows))) = chosen_right rows listing moment ordered in
    let most = count_right rows listing.term listing.types in
    record {
      ids = IfOk-weaker c.chosen.result _ _ (λ ids e. e ∙ ap (map (λ (r : NodeRank). r.id.0)) ranks) c.chosen.ensures.ids;
      there = IfOk-weaker c.chosen.result _ _
          (λ ids e. subst (All (λ n. IsSome (node_of rows n))) (sym (e ∙ ap (map (λ (r : NodeRank). r.id.0)) ranks)) (candidates_there rows listing moment ordered))
          c.chosen.ensures.ids;
      reads = omega (arith, most, c.chosen.ensures.reads);
    }
