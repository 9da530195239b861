use Rattle.std.proofs.Common.{◌≡◌, ◌∙◌, ◌++◌, List, [], ◌∷◌, ap, sym, subst, append-nil, append_assoc}
use Rattle.content_rows.specs.declared.cell.Cell.{Cell}
use Rattle.content_rows.specs.declared.row.Row.{Row}
use Rattle.indexed_rows.specs.Write.{Write}
use Rattle.site_import.specs.Changes.{is_change, writes_of, KeepsUnchanged}
use Rattle.site_import.proofs.Left.{all_so_far, no_write, none_so_far, one_so_far, one_write, shared_write, KeptSoFar, Stored}
use Rattle.site_import.proofs.changes.changes_of.Goals as goal

pub rows-init : goal.rows-init
rows-init c =
    let base = c.args.base.now.rows in
    let is : c.into_iter-cell-iterator.result ≡ c.args.file.now = c.into_iter-cell-iterator.ensures.into_iter_gives ∙ c.in_ok-entries.ensures.rows in
    record {
      before = [];
      split = sym is;
      ordered = c.in_order.ensures.ordered;
      writes = ap (λ (ws : List Write). ws ++ writes_of base c.into_iter-cell-iterator.result) c.new-writes.ensures.items ∙ ap (writes_of base) is;
      kept = subst (KeptSoFar base c.args.file.now) (sym is) (λ base_valid. none_so_far (KeepsUnchanged base) c.args.file.now);
    }

pub rows-preserved-in_ok-push : goal.rows-preserved-in_ok-push
rows-preserved-in_ok-push c =
    let base = c.args.base.now.rows in
    let left = c.rows.cell-iterator in
    let rest = c.next.new.self in
    let e : Cell × Row = (c.in-Some.cell, c.in-Some.row.now) in
    let before : Stored = c.rows.invariant.before in
    let split : c.args.file.now ≡ before ++ e ∷ rest = c.rows.invariant.split ∙ ap (λ (l : Stored). before ++ l) c.in-Some.ensures.steps in
    let changed : is_change base e ≡ c.in_ok-is_change.field-0 = sym c.in_ok-is_change.ensures.changed in record {
      before = before ++ e ∷ [];
      split = split ∙ sym (append_assoc before (e ∷ []) rest);
      ordered = c.rows.invariant.ordered;
      writes = ap (λ (ws : List Write). ws ++ writes_of base rest) c.in_ok-push.ensures.items
          ∙ ap (λ (x : Write). (c.rows.writes.items ++ x ∷ []) ++ writes_of base rest) (shared_write c.args.file.now before rest e _ c.rows.invariant.ordered split c.in_ok-shared.ensures)
          ∙ one_write base left rest e c.rows.writes.items (writes_of base c.args.file.now) c.in-Some.ensures.steps (changed ∙ c.if-branch.true) c.rows.invariant.writes;
      kept = λ base_valid. one_so_far (KeepsUnchanged base) c.args.file.now left rest e c.in-Some.ensures.steps (c.in_ok-is_change.ensures.kept base_valid) (c.rows.invariant.kept base_valid);
    }

pub rows-preserved : goal.rows-preserved
rows-preserved c =
    let base = c.args.base.now.rows in
    let left = c.rows.cell-iterator in
    let rest = c.next.new.self in
    let e : Cell × Row = (c.in-Some.cell, c.in-Some.row.now) in
    let before : Stored = c.rows.invariant.before in
    let split : c.args.file.now ≡ before ++ e ∷ rest = c.rows.invariant.split ∙ ap (λ (l : Stored). before ++ l) c.in-Some.ensures.steps in
    let changed : is_change base e ≡ c.in_ok-is_change.field-0 = sym c.in_ok-is_change.ensures.changed in record {
      before = before ++ e ∷ [];
      split = split ∙ sym (append_assoc before (e ∷ []) rest);
      ordered = c.rows.invariant.ordered;
      writes = no_write base left rest e c.rows.writes.items (writes_of base c.args.file.now) c.in-Some.ensures.steps (changed ∙ c.if-branch.false) c.rows.invariant.writes;
      kept = λ base_valid. one_so_far (KeepsUnchanged base) c.args.file.now left rest e c.in-Some.ensures.steps (c.in_ok-is_change.ensures.kept base_valid) (c.rows.invariant.kept base_valid);
    }

pub returns-clause-writes : goal.returns-clause-writes
returns-clause-writes c =
    sym (append-nil c.rows.writes.items) ∙ ap (λ (l : Stored). c.rows.writes.items ++ writes_of c.args.base.now.rows l) (sym c.in-None.ensures.steps.0) ∙ c.rows.invariant.writes

pub returns-clause-kept : goal.returns-clause-kept
returns-clause-kept c = λ base_valid valid.
    all_so_far (KeepsUnchanged c.args.base.now.rows) c.args.file.now c.rows.cell-iterator c.in-None.ensures.steps.0 (c.rows.invariant.kept base_valid) valid
