use Rattle.std.proofs.Common.{rules, ◌≡◌, sym, subst}
use Rattle.std.specs.Arc.{arc_value}
use Rattle.std.specs.List.Sorted.{IsStrictlySortedBy}
use Rattle.std.specs.BTreeSet.{insert_key}
use Rattle.cacheability.proofs.InOrder.{sorted-insert_key}
use Rattle.shared_set.specs.Keys.{flat}
use Rattle.shared_set.proofs.set.SharedSet.insert.Goals as goal

pub invariant_of-self : goal.invariant_of-self
invariant_of-self g c =
    let R = g.K.Ord.cmp in
    let old = flat (arc_value c.self.inside.chunks).items in
    let same : flat (arc_value c.in_ok-self-inside.field-0).items ≡ insert_key R old c.args.key.now = search rules in
    subst (IsStrictlySortedBy R) (sym same) (sorted-insert_key g.met.K.Ord.total old c.args.key.now c.self.invariant)
