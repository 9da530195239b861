use Rattle.std.proofs.Common.{◌∙◌, ap, sym}
use Rattle.std.specs.List.{list_any}
use Rattle.std.proofs.lemmas.List.Sorted.{list_any-IsPermutation}
use Rattle.content_rows.specs.declared.cell.Cell.{Cell}
use Rattle.content_rows.specs.declared.row.Row.{Row}
use Rattle.valid_edits.specs.Holders.{is_of_type}
use Rattle.valid_edits.proofs.holders.is_used.Goals as goal

pub rows-init : goal.rows-init
rows-init c =
    let test = λ (e : Cell × Row). is_of_type c.args.node_type e in
    ap (list_any test) (sym c.rows-2.ensures) ∙ list_any-IsPermutation test _ _ c.each-row-items.ensures ∙ ap (list_any test) (sym c.into_iter-row-iterator.ensures.into_iter_gives)
