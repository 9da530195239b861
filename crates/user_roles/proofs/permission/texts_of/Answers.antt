use Rattle.std.proofs.Common.{◌∙◌, subst, rules, tests, arith}
use Rattle.std.specs.List.Sorted.{IsStrictlySortedBy}
use Rattle.std.specs.Ordering.{nat_cmp}
use Rattle.std.specs.Cmp.Lexicographic.{slice_cmp}
use Rattle.std.proofs.lemmas.Result.{IfOk-weaker}
use Rattle.user_roles.proofs.InOrder.{of_only}
use Rattle.user_roles.proofs.permission.texts_of.Goals as goal

-- src/permission.rt:43:1
pub returns-in-len1 : goal.returns-in-len1
returns-in-len1 c =
    let sorted : IsStrictlySortedBy (slice_cmp nat_cmp) c.role-item.result.now.permissions = subst (λ xs. IsStrictlySortedBy (slice_cmp nat_cmp) xs) c.as_slice.ensures (search (rules, tests)) in
    IfOk-weaker c.duplicate.result _ _
    (λ texts e. e ∙ of_only c.args.roles.now c.role-item.result c.role-item.is (omega arith) (omega arith) sorted)
    c.duplicate.ensures
