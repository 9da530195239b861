use Rattle.std.proofs.Common.{◌≤◌, ◌∙◌, ap, subst, sym}
use Rattle.serde_json.specs.Data.{Data, depth}
use Rattle.serde_json.specs.View.{view}
use Rattle.serde_json.specs.Written.{compact_text, has_float}
use Rattle.site_import.proofs.LineTells.{tells_row}
use Rattle.site_import.proofs.Plain.{no_float, shallow}
use Rattle.site_import.proofs.line.line_of.Goals as goal

pub returns-clause-written : goal.returns-clause-written
returns-clause-written c =
    c.in_ok-text.ensures.text (ap has_float c.in_ok-value.ensures.written ∙ no_float c.args.cell.now c.args.row.now) ∙ ap compact_text c.in_ok-value.ensures.written

pub returns-clause-told : goal.returns-clause-told
returns-clause-told c = λ valid.
    let is = c.in_ok-value.ensures.written in
    tells_row c.args.cell.now c.args.row.now c.in_ok-text.text.items (view c.in_ok-value.value) is
    (c.in_ok-text.ensures.text (ap has_float is ∙ no_float c.args.cell.now c.args.row.now) ∙ ap compact_text is) c.in_ok-text.ensures.utf8
    (c.in_ok-text.ensures.reads_back (subst (λ (d : Data). depth d ≤ 127) (sym is) (shallow c.args.cell.now c.args.row.now))) (c.in_ok-value.ensures.back valid)
