use Rattle.std.proofs.Common.{rules, arith, ◌≡◌, sym, subst}
use Rattle.std.specs.List.Sorted.{IsStrictlySortedBy}
use Rattle.std.specs.BTreeSet.{insert_key}
use Rattle.std.proofs.lemmas.Grind.{common_steps}
use Rattle.std.proofs.lemmas.List.Sums.{fold_more}
use Rattle.cacheability.proofs.InOrder.{sorted-insert_key}
use Rattle.shared_set.specs.Keys.{flat}
use Rattle.shared_set.proofs.splice.put_all_in.Goals as goal

pub keys-preserved : goal.keys-preserved
keys-preserved g c =
    let R = g.K.Ord.cmp in
    let grown : flat c.put_in.new.chunks.items ≡ insert_key R (flat c.keys.chunks.items) c.key-item.result = search rules in
    record {
      same = grind (arith, common_steps, fold_more);
      ordered = subst (IsStrictlySortedBy R) (sym grown) (sorted-insert_key g.met.K.Ord.total (flat c.keys.chunks.items) c.key-item.result c.keys.invariant.ordered);
    }
