use Rattle.std.proofs.Common.{refl, sym, ◌∙◌, arith}
use Rattle.content_rows.proofs.Apart.{repeated, apart, none_left}
use Rattle.content_rows.proofs.right.have_distinct_names.Goals as goal

pub returns-then-has_field : goal.returns-then-has_field
returns-then-has_field c = (
  λ e. cc,
  λ d. absurd (repeated (λ f. f.name) c.left.left.now c.field-item.result (omega arith) c.field-item.is (sym c.has_field.ensures ∙ c.if-has_field.true) (c.left.invariant.1 d)),
)

pub left-preserved : goal.left-preserved
left-preserved c =
    let one = apart (λ f. f.name) c.left.left.now c.field-item.result (omega arith) c.field-item.is (sym c.has_field.ensures ∙ c.if-has_field.false) in
    (λ d. c.left.invariant.0 (one.0 d), λ d. one.1 (c.left.invariant.1 d))

pub returns : goal.returns
returns c = (λ _. c.left.invariant.0 (none_left (λ f. f.name) c.left.left.now c.in_default.len_below), λ _. refl)
