use Rattle.std.proofs.Common.{◌∙◌, ap, fold}
use Rattle.std.specs.BTreeSet.{insert_key}
use Rattle.std.specs.Ordering.{nat_cmp}
use Rattle.site_lists.specs.Below.{below, ids_under}
use Rattle.site_lists.proofs.Terms.{walked}
use Rattle.site_lists.proofs.below.terms_within.Goals as goal

pub returns : goal.returns
returns c =
    let rows = c.args.state.now.rows in
    c.in_ok-add_below.ensures
    ∙ ap (λ ks. fold (insert_key nat_cmp) ks (below (ids_under rows) 9 c.args.top)) c.new-terms.ensures.empty
    ∙ walked rows c.stands_in_order.ensures.rows c.args.top
