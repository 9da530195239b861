use Rattle.std.proofs.Common.{◌∙◌, ℕ, List, ap, sym}
use Rattle.std.specs.Prelude.{not}
use Rattle.std.specs.List.{find}
use Rattle.std.specs.Option.{option_map}
use Rattle.std.specs.Ordering.{is_eq}
use Rattle.content_rows.specs.CellOrder.{cell_cmp}
use Rattle.content_rows.specs.declared.cell.Cell.{Cell}
use Rattle.content_rows.specs.declared.row.Row.{Row}
use Rattle.content_state.proofs.Found.{find_both}
use Rattle.content_state.specs.Having.{having}
use Rattle.indexed_rows.specs.Texts.{is_text, text_of}
use Rattle.valid_edits.proofs.holders.holder.Goals as goal

pub rows-init : goal.rows-init
rows-init c =
    let other = λ (e : Cell × Row). not (is_eq (cell_cmp e.0 c.args.cell.now)) in
    let first = λ (es : List (Cell × Row)). option_map (λ (e : Cell × Row). e.0) (find other es) in
    let has = λ (e : Cell × Row). is_text c.args.text.now (text_of c.args.what e.1) in
    ap (option_map (λ (e : Cell × Row). e.0)) (find_both other has c.args.state.now.rows)
    ∙ ap (λ (text : List ℕ). first (having c.args.what text c.args.state.now.rows)) (sym c.as_slice.ensures)
    ∙ ap first (sym c.rows_with-other-items.ensures)
    ∙ ap first (sym c.into_iter-other-iterator.ensures.into_iter_gives)
