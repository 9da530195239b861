use Rattle.std.proofs.Common.{arith, ◌≡◌, ◌∙◌, [], sym, ap, subst}
use Rattle.std.specs.Prelude.{fold}
use Rattle.std.specs.BTreeSet.{insert_key}
use Rattle.std.specs.List.Sorted.{IsStrictlySortedBy}
use Rattle.std.proofs.lemmas.List.{take_all}
use Rattle.std.proofs.lemmas.Result.{IfOk-weaker}
use Rattle.cacheability.proofs.InOrder.{sorted-union}
use Rattle.shared_set.proofs.Ends.{sorted_none}
use Rattle.shared_set.proofs.set.in_order.Goals as goal

pub returns-clause-ordered : goal.returns-clause-ordered
returns-clause-ordered g c =
    let R = g.K.Ord.cmp in
    let all = c.args.keys.now in
    let whole : c.keys.set.keys ≡ fold (insert_key R) [] all = c.keys.invariant ∙ ap (fold (insert_key R) []) (take_all c.keys.key-index all (omega arith)) in
    let ordered : IsStrictlySortedBy R (fold (insert_key R) [] all) = sorted-union g.met.K.Ord.total [] all (sorted_none R) in
    IfOk-weaker c.listed.result _ _ (λ v same. subst (IsStrictlySortedBy R) (sym (same ∙ whole)) ordered) c.listed.ensures
