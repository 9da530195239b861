use Rattle.std.proofs.Common.{◌≡◌, ◌∙◌, refl, sym, subst}
use Rattle.content_rows.specs.declared.cell.Cell.{Cell}
use Rattle.content_rows.specs.declared.row.Row.{Row}
use Rattle.indexed_rows.specs.Rows.{InOrder}
use Rattle.site_import.specs.Lines.{TellsItsRow}
use Rattle.site_import.proofs.ComingBack.{comes_back}
use Rattle.site_import.proofs.Left.{all_so_far, all_written, front_written, none_so_far, none_written, on_err, one_so_far, one_written, Stored, ToldSoFar, WrittenSoFar}
use Rattle.site_import.proofs.written.export.Goals as goal

pub rows-init : goal.rows-init
rows-init g c =
    let rows = c.args.state.now.rows in
    let sink = g.O.Sink.written c.args.sink.now in
    let is : c.into_iter-cell-iterator.result ≡ rows = c.into_iter-cell-iterator.ensures.into_iter_gives ∙ c.in_ok-rows.ensures.rows ∙ c.rows-2.ensures in record {
      ordered = subst InOrder c.rows-2.ensures c.in_ok-rows.ensures.ordered;
      written = subst (λ (l : Stored). WrittenSoFar sink sink rows l) (sym is) (none_written sink rows);
      told = subst (λ (l : Stored). ToldSoFar rows l) (sym is) (none_so_far (λ e. TellsItsRow e.0 e.1) rows);
      faults = refl;
    }

pub rows-preserved : goal.rows-preserved
rows-preserved g c =
    let rows = c.args.state.now.rows in
    let e : Cell × Row = (c.in-Some.cell, c.in-Some.row.now) in
    let sink = g.O.Sink.written c.args.sink.now in record {
      ordered = c.rows.invariant.ordered;
      written = one_written sink (g.O.Sink.written c.rows.sink) (g.O.Sink.written c.write_row.new.sink) rows c.rows.cell-iterator c.next.new.self e c.in-Some.ensures.steps c.in_ok-write_row.ensures.whole c.rows.invariant.written;
      told = one_so_far (λ d. TellsItsRow d.0 d.1) rows c.rows.cell-iterator c.next.new.self e c.in-Some.ensures.steps c.in_ok-write_row.ensures.told c.rows.invariant.told;
      faults = c.in_ok-write_row.ensures.steady ∙ c.rows.invariant.faults;
    }

pub returns-in_err-write_row-clause-front : goal.returns-in_err-write_row-clause-front
returns-in_err-write_row-clause-front g c =
    on_err c.from_residual-in_err-write_row.result
    (front_written (g.O.Sink.written c.args.sink.now) (g.O.Sink.written c.rows.sink) (g.O.Sink.written c.write_row.new.sink) c.args.state.now.rows c.rows.cell-iterator c.next.new.self (c.in-Some.cell, c.in-Some.row.now) c.in-Some.ensures.steps c.in_err-write_row.ensures.front c.rows.invariant.written)

pub returns-clause-whole : goal.returns-clause-whole
returns-clause-whole g c =
    all_written (g.O.Sink.written c.args.sink.now) (g.O.Sink.written c.rows.sink) c.args.state.now.rows c.rows.cell-iterator c.in-None.ensures.steps.0 c.rows.invariant.written

pub returns-clause-back : goal.returns-clause-back
returns-clause-back g c = λ valid.
    comes_back c.args.state.now.rows c.rows.invariant.ordered (all_so_far (λ d. TellsItsRow d.0 d.1) c.args.state.now.rows c.rows.cell-iterator c.in-None.ensures.steps.0 c.rows.invariant.told valid)
