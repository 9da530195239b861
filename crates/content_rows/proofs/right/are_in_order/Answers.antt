use Rattle.std.proofs.Common.{rules, tests}
use Rattle.std.proofs.lemmas.Fn.{always_returns_same}
use Rattle.std.specs.Cmp.Lexicographic.{slice_cmp}
use Rattle.std.specs.Ordering.{nat_cmp, is_lt}
use Rattle.content_rows.proofs.Ascending.{ascends}
use Rattle.content_rows.proofs.right.are_in_order.Goals as goal

pub returns : goal.returns
returns c =
    ascends (λ f. f.name) c.args.fields.now c.is_sorted_by.result
    (c.is_sorted_by.ensures.cases (λ x y. is_lt (slice_cmp nat_cmp x.name y.name)) (always_returns_same _ _ _ (λ a r f k. search (rules, tests))))
