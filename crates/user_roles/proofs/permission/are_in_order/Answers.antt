use Rattle.std.proofs.Common.{◌↔◌, IsTrue, map-id, subst, rules, tests}
use Rattle.std.proofs.lemmas.Fn.{always_returns_same}
use Rattle.std.specs.Cmp.Lexicographic.{slice_cmp}
use Rattle.std.specs.List.Sorted.{IsStrictlySortedBy}
use Rattle.std.specs.Ordering.{nat_cmp, is_lt}
use Rattle.content_rows.proofs.Ascending.{ascends}
use Rattle.user_roles.proofs.permission.are_in_order.Goals as goal

pub returns : goal.returns
returns c =
    subst (λ xs. IsTrue c.is_sorted_by.result ↔ IsStrictlySortedBy (slice_cmp nat_cmp) xs) (map-id c.args.texts.now)
    (ascends (λ t. t) c.args.texts.now c.is_sorted_by.result
    (c.is_sorted_by.ensures.cases (λ x y. is_lt (slice_cmp nat_cmp x y)) (always_returns_same _ _ _ (λ a r f k. search (rules, tests)))))
