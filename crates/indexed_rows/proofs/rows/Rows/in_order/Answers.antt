use Rattle.std.proofs.Common.{◌≡◌, ◌∙◌, ◌+◌, ◌++◌, List, ◌∷◌, Some, None, Bor, ap, sym, append-nil, drop, map, vec_items}
use Rattle.std.specs.Map.{keys_of}
use Rattle.std.proofs.lemmas.List.{drop_all, drop_more}
use Rattle.content_rows.specs.declared.cell.Cell.{Cell}
use Rattle.content_rows.specs.declared.row.Row.{Row}
use Rattle.indexed_rows.specs.Rows.{shown}
use Rattle.indexed_rows.proofs.CellsFound.{all_walked, entries_at, one_more}
use Rattle.indexed_rows.proofs.rows.Rows.in_order.Goals as goal
use Rattle.indexed_rows.proofs.rows.Rows.in_order.Goals.{in-Some+in_ok-push, in_default}

pub keys-init : goal.keys-init
keys-init c = ap (λ (es : List (Cell × Bor Row)). map shown es ++ entries_at c.args.self.now c.deref-key-items.result.now) c.in_ok-entries.ensures.items

pub keys-preserved : goal.keys-preserved
keys-preserved c =
    let rows = c.args.self.now in
    let cells : List Cell = c.deref-key-items.result.now in
    let rest : List Cell = drop (c.keys.key-index + 1) cells in
    let so_far : List (Cell × Row) = map shown c.keys.entries.items in
    let left : drop c.keys.key-index cells ≡ c.key.inside.0 ∷ rest =
    drop_more cells c.keys.key-index c.key-item.result c.keys-test.true ∙ ap (λ (k : Cell). k ∷ rest) (sym c.key-item.is ∙ sym c.key.view_is) in
    elim c.match-get.branch [
      | in-Some+in_ok-push w ↦ ap (λ v. map shown (vec_items v) ++ entries_at rows rest) w.entries-is ∙ ap (λ (es : List (Cell × Row)). es ++ entries_at rows rest) w.in_ok-push.ensures
          ∙ one_more rows c.key.inside.0 (Some w.in-Some.row.now) so_far (entries_at rows cells) (drop c.keys.key-index cells) rest w.in-Some.ensures left c.keys.invariant
      | in_default w ↦ ap (λ v. map shown (vec_items v) ++ entries_at rows rest) w.entries-is ∙ ap (λ (es : List (Cell × Row)). es ++ entries_at rows rest) (sym (append-nil so_far))
          ∙ one_more rows c.key.inside.0 None so_far (entries_at rows cells) (drop c.keys.key-index cells) rest w.in_default.ensures left c.keys.invariant
    ]

pub returns-clause-rows : goal.returns-clause-rows
returns-clause-rows c =
    let cells : List Cell = c.deref-key-items.result.now in
    ap (map shown) c.into_iter.ensures.rest
    ∙ all_walked c.args.self.now (map shown c.keys.entries.items) cells (drop c.keys.key-index cells) c.stands_in_order.ensures
    (c.deref-key-items.ensures.value ∙ c.in_ok-keys.ensures ∙ ap keys_of c.self.view_is) (drop_all c.keys.key-index cells c.keys-test.false) c.keys.invariant
