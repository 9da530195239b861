use Rattle.std.proofs.Common.{◌∙◌, ap, sym}
use Rattle.std.specs.List.{list_any}
use Rattle.std.proofs.lemmas.List.Sorted.{list_any-IsPermutation}
use Rattle.content_rows.specs.declared.cell.Cell.{Cell}
use Rattle.content_rows.specs.declared.row.Row.{Row}
use Rattle.content_state.specs.SiteRules.{is_id_from}
use Rattle.content_state.proofs.site_rules.has_id_from.Goals as goal

pub rows-init : goal.rows-init
rows-init c =
    let test = λ (e : Cell × Row). is_id_from c.args.kind c.args.next e.0 in
    ap (list_any test) (sym c.rows-2.ensures) ∙ list_any-IsPermutation test _ _ c.each-cell-items.ensures ∙ ap (list_any test) (sym c.into_iter-cell-iterator.ensures.into_iter_gives)
