use Rattle.std.proofs.Common.{◌≡◌, ◌∙◌, ℕ, List, true, sym, ap, subst, arith, codes, Ok}
use Rattle.std.proofs.lemmas.Result.{err_from_is_err_and}
use Rattle.json_keys.specs.declared.rule.Rule.TheVariants as rule
use Rattle.site_io.specs.Told.{before}
use Rattle.site_files.specs.Rows.{IsFileFault, IsLineFault, with_one_more, row_of_line}
use Rattle.site_files.specs.declared.fault.LineFault.TheVariants as fault
use Rattle.site_files.specs.declared.fault.ReadFault.TheVariants as why
use Rattle.site_files.proofs.LineLaws.{ReadSoFar, device_fault, line_fault, one_more, many_lines, has_byte, filled}
use Rattle.site_files.proofs.file.read_rows.Goals as goal

pub returns-in_err-take_line-clause-fault : goal.returns-in_err-take_line-clause-fault
returns-in_err-take_line-clause-fault g c =
    let p = err_from_is_err_and c.from_residual-in_err-take_line.result c.from_residual-in_err-take_line.ensures.1 in
    rw (p.1, p.2) (device_fault (g.S.Source.left c.args.source.now) _ c.in_err-take_line.ensures.kind)

pub returns-in_err-add_line-clause-fault : goal.returns-in_err-add_line-clause-fault
returns-in_err-add_line-clause-fault g c =
    let p = err_from_is_err_and c.from_residual-in_err-add_line.result c.from_residual-in_err-add_line.ensures.1 in
    let yes : c.in_ok-more.more ≡ true = c.if-not-more.false in
    let whole = g.S.Source.left c.args.source.now in
    let ahead = before c.fill.new.self (g.S.Source.left c.fill.new.source) in
    let so_far = filled whole c.lines.number c.lines.rows _ ahead c.in_ok-more.ensures.told c.lines.invariant.so_far in
    let fault = subst (λ (l : List ℕ). IsLineFault c.lines.number (with_one_more c.lines.rows (row_of_line l)) c.in_err-add_line.field-0.0) c.as_slice.ensures.value c.in_err-add_line.ensures.fault in
    rw (p.1, p.2)
    (line_fault whole c.lines.number c.lines.rows ahead c.take_line.new.line.items (before c.take_line.new.self (g.S.Source.left c.take_line.new.source)) c.in_err-add_line.field-0.0 (omega arith) (has_byte c.fill.new.self (g.S.Source.left c.fill.new.source) (c.in_ok-more.ensures.more yes)) c.in_ok-take_line.ensures.told fault so_far)

pub lines-preserved : goal.lines-preserved
lines-preserved g c =
    let yes : c.in_ok-more.more ≡ true = c.if-not-more.false in
    let whole = g.S.Source.left c.args.source.now in
    let ahead = before c.fill.new.self (g.S.Source.left c.fill.new.source) in
    let so_far = filled whole c.lines.number c.lines.rows _ ahead c.in_ok-more.ensures.told c.lines.invariant.so_far in
    let added = subst (λ (l : List ℕ). with_one_more c.lines.rows (row_of_line l) ≡ Ok c.add_line.new.rows) c.as_slice.ensures.value c.in_ok-add_line.ensures.added in
    record {
      so_far = one_more whole c.lines.number c.lines.rows c.add_line.new.rows ahead c.take_line.new.line.items (before c.take_line.new.self (g.S.Source.left c.take_line.new.source)) (omega arith) (has_byte c.fill.new.self (g.S.Source.left c.fill.new.source) (c.in_ok-more.ensures.more yes)) c.in_ok-take_line.ensures.told added so_far;
      valid = c.in_ok-add_line.ensures.valid c.lines.invariant.valid;
      steady = c.in_ok-take_line.ensures.steady ∙ c.in_ok-more.ensures.steady ∙ c.lines.invariant.steady;
    }

pub returns-in_ok-copied-clause-fault : goal.returns-in_ok-copied-clause-fault
returns-in_ok-copied-clause-fault g c =
    let whole = g.S.Source.left c.args.source.now in
    let ahead = before c.fill-2.new.self (g.S.Source.left c.fill-2.new.source) in
    let last : c.lines.number ≡ 100001 = omega arith in
    let so_far = subst (λ (n : ℕ). ReadSoFar whole n c.lines.rows ahead) last (filled whole c.lines.number c.lines.rows _ ahead c.in_ok-more-2.ensures.told c.lines.invariant.so_far) in
    let told : c.broken.result ≡ why.Line 100001 (fault.Rule (codes "-") rule.Many) = c.broken.ensures ∙ ap (λ (f : List ℕ). why.Line 100001 (fault.Rule f rule.Many)) c.in_ok-copied.ensures in
    subst (IsFileFault whole) (sym told) (many_lines whole c.lines.rows ahead (has_byte c.fill-2.new.self (g.S.Source.left c.fill-2.new.source) (c.in_ok-more-2.ensures.more c.if-more.true)) so_far)
