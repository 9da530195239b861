use Rattle.std.proofs.Common.{refl, sym, ◌∙◌, arith}
use Rattle.content_rows.proofs.Apart.{repeated, apart, none_left}
use Rattle.content_rows.proofs.right.have_distinct_ids.Goals as goal

pub returns-then-has_link : goal.returns-then-has_link
returns-then-has_link c = (
  λ e. cc,
  λ d. absurd (repeated (λ l. l.id) c.left.left.now c.link-item.result (omega arith) c.link-item.is (sym c.has_link.ensures ∙ c.if-has_link.true) (c.left.invariant.1 d)),
)

pub left-preserved : goal.left-preserved
left-preserved c =
    let one = apart (λ l. l.id) c.left.left.now c.link-item.result (omega arith) c.link-item.is (sym c.has_link.ensures ∙ c.if-has_link.false) in
    (λ d. c.left.invariant.0 (one.0 d), λ d. one.1 (c.left.invariant.1 d))

pub returns : goal.returns
returns c = (λ _. c.left.invariant.0 (none_left (λ l. l.id) c.left.left.now c.in_default.len_below), λ _. refl)
