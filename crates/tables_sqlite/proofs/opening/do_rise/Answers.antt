use Rattle.std.proofs.Common.{◌≡◌, ◌+◌, ◌∷◌, drop, rules, sym, ap, ◌∙◌, true≢false, w64, to_z, of_z}
use Rattle.std.proofs.lemmas.List.{drop_more}
use Rattle.sqlite.specs.Order.{Row}
use Rattle.tables_sqlite.proofs.Refusals.{not_risen, not_above}
use Rattle.tables_sqlite.proofs.opening.do_rise.Goals as goal

pub returns-in_default : goal.returns-in_default
returns-in_default c = (
  λ no. absurd (true≢false (sym no)),
  λ rises. absurd (let rest = drop (c.rows.row-index + 1) c.args.rows.now in
      not_risen c.rows.last (drop c.rows.row-index c.args.rows.now) rest c.row-item.result
      (drop_more c.args.rows.now c.rows.row-index c.row-item.result c.rows-test.true ∙ ap (λ (r : Row). r ∷ rest) (sym c.row-item.is)) (λ n is above. c.in_default.ensures.none n is) (c.rows.invariant.1 rises)),
)

pub returns-then-not-is_above : goal.returns-then-not-is_above
returns-then-not-is_above c = (
  λ no. absurd (true≢false (sym no)),
  λ rises. absurd (let rest = drop (c.rows.row-index + 1) c.args.rows.now in
      let same : to_z w64 (of_z w64 c.in-Some.id) ≡ c.in-Some.id = search rules in
      not_risen c.rows.last (drop c.rows.row-index c.args.rows.now) rest c.row-item.result
      (drop_more c.args.rows.now c.rows.row-index c.row-item.result c.rows-test.true ∙ ap (λ (r : Row). r ∷ rest) (sym c.row-item.is))
      (not_above c.rows.last c.row-item.result c.in-Some.id _ c.in-Some.ensures.some same c.if-not-is_above.ensures.1) (c.rows.invariant.1 rises)),
)
