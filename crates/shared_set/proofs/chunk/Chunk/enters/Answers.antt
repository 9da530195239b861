use Rattle.std.proofs.Common.{rules, ◌∙◌, ◌≡◌, ◌≤◌, ◌-◌, ap, sym, subst, get_or, length}
use Rattle.std.specs.Prelude.{not}
use Rattle.std.specs.Ordering.{is_gt}
use Rattle.std.specs.List.Sorted.{IsStrictlySortedBy}
use Rattle.shared_set.specs.Keys.{reaches}
use Rattle.shared_set.proofs.Ends.{reaches_by_last, stays_from}
use Rattle.shared_set.proofs.chunk.Chunk.enters.Goals as goal

pub returns-in-Some-clause-same : goal.returns-in-Some-clause-same
returns-in-Some-clause-same g c =
    let R = g.K.Ord.cmp in
    let B = g.S.Span.beside in
    let s = c.args.span.now in
    let xs = c.deref-2.result.now in
    let l = c.in-Some.last.now in
    let some : 1 ≤ length xs = search rules in
    let at : l ≡ get_or xs (length xs - 1) l = search rules in
    let own : xs ≡ c.args.self.now = search rules in
    let sorted : IsStrictlySortedBy R xs = subst (IsStrictlySortedBy R) (sym c.deref-2.ensures.value) (subst (λ v. IsStrictlySortedBy R v.items) (sym c.deref.ensures) c.self.invariant.0) in
    ap not (c.is_gt.ensures ∙ ap is_gt c.beside.ensures) ∙ reaches_by_last B s (stays_from B s (g.met.S.Span.before s)) l xs sorted some at ∙ ap (reaches B s) own
