use Rattle.std.proofs.Common.{rules, ◌≡◌, sym, subst}
use Rattle.std.specs.Arc.{arc_value}
use Rattle.std.specs.List.{filter}
use Rattle.std.specs.List.Sorted.{IsStrictlySortedBy}
use Rattle.shared_set.specs.Keys.{flat, is_other}
use Rattle.shared_set.proofs.Ends.{sorted_others}
use Rattle.shared_set.proofs.set.SharedSet.remove.Goals as goal

pub invariant_of-self : goal.invariant_of-self
invariant_of-self g c =
    let R = g.K.Ord.cmp in
    let old = flat (arc_value c.self.inside.chunks).items in
    let same : flat (arc_value c.in_ok-self-inside.field-0).items ≡ filter (is_other R c.args.key.now) old = search rules in
    subst (IsStrictlySortedBy R) (sym same) (sorted_others R c.args.key.now old c.self.invariant)
