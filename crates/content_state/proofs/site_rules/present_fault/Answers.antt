use Rattle.std.proofs.Common.{[], ◌∷◌, ◌++◌, ◌∙◌, sym, ap, subst, append_assoc}
use Rattle.content_rows.specs.declared.cell.Cell.{Cell}
use Rattle.content_rows.specs.declared.row.Row.{Row}
use Rattle.content_state.specs.FirstFault.{fault_at}
use Rattle.indexed_rows.specs.Rows.{InOrder}
use Rattle.content_state.proofs.SeenRows.{seen_before, seen_one_more, passed_over}
use Rattle.content_state.proofs.site_rules.present_fault.Goals as goal

pub cell_fault-requires : goal.cell_fault-requires
cell_fault-requires c =
    let sorted : InOrder c.args.state.now.rows = subst InOrder c.rows-2.ensures c.in_order.ensures.ordered in
    seen_before c.args.state.now.rows c.rows.invariant.before c.next.new.self c.in-Some.cell c.in-Some.row.now c.rows.seen
    sorted (c.rows.invariant.split ∙ ap (λ l. c.rows.invariant.before ++ l) c.in-Some.ensures.steps)
    c.rows.invariant.seen

pub rows-preserved : goal.rows-preserved
rows-preserved c =
    let one : Cell × Row = (c.in-Some.cell, c.in-Some.row.now) in
    record {
      rest = c.rows.invariant.rest ∙ passed_over c.args.state.now.rows c.rows.cell-iterator c.next.new.self c.in-Some.cell c.in-Some.row.now c.found-fault.result
          c.in-Some.ensures.steps (c.found-fault.ensures ∙ ap (λ f. fault_at c.in-Some.cell f) c.cell_fault.ensures) (sym c.is_some.ensures ∙ c.if-is_some.false);
      before = c.rows.invariant.before ++ one ∷ [];
      split = c.rows.invariant.split ∙ ap (λ l. c.rows.invariant.before ++ l) c.in-Some.ensures.steps ∙ sym (append_assoc c.rows.invariant.before (one ∷ []) c.next.new.self);
      seen = seen_one_more c.rows.invariant.before c.in-Some.cell c.in-Some.row.now c.rows.seen c.note.new.seen c.rows.invariant.seen c.in_ok-note.ensures;
    }
