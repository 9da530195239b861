use Rattle.std.proofs.Common.{rules, arith, ◌≡◌, sym, subst}
use Rattle.std.specs.List.{filter}
use Rattle.std.specs.List.Sorted.{IsStrictlySortedBy}
use Rattle.std.proofs.lemmas.Grind.{common_steps}
use Rattle.std.proofs.lemmas.List.Sums.{fold_more}
use Rattle.shared_set.specs.Keys.{flat, is_other}
use Rattle.shared_set.proofs.Ends.{sorted_others}
use Rattle.shared_set.proofs.splice.take_all_out.Goals as goal

pub keys-preserved : goal.keys-preserved
keys-preserved g c =
    let R = g.K.Ord.cmp in
    let left : flat c.take_out.new.chunks.items ≡ filter (is_other R c.key-item.result) (flat c.keys.chunks.items) = search rules in
    record {
      same = grind (arith, common_steps, fold_more);
      ordered = subst (IsStrictlySortedBy R) (sym left) (sorted_others R c.key-item.result (flat c.keys.chunks.items) c.keys.invariant.ordered);
    }
