use Rattle.std.proofs.Common.{List, ◌∙◌, ap, map, sym}
use Rattle.row_keys.specs.declared.rank.ParentKey.{ParentKey}
use Rattle.site_lists.proofs.OneIndex.{alone}
use Rattle.site_lists.proofs.below.is_alone.Goals as goal

pub returns-in-None : goal.returns-in-None
returns-in-None c _ =
    alone c.args.state.now.rows c.stands_in_order.ensures.rows c.args.top
    (ap (λ (ks : List ParentKey). map (λ (k : ParentKey). k.id) ks) (sym c.children.ensures ∙ c.in-None.ensures.steps.0))
