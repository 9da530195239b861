use Rattle.std.proofs.Common.{arith, ◌≡◌, ◌∙◌, ◌+◌, ◌-◌, ◌/◌, ◌<◌, true, false, sym, ap, length, get_or}
use Rattle.std.specs.Prelude.{not}
use Rattle.std.specs.Ordering.{is_gt}
use Rattle.shared_set.specs.Keys.{is_from}
use Rattle.shared_set.proofs.Ends.{stays_from, up_to_middle, from_middle, from_both}
use Rattle.shared_set.proofs.within.first_from.Goals as goal

pub halves-preserved-then-is_gt : goal.halves-preserved-then-is_gt
halves-preserved-then-is_gt g c =
    let B = g.S.Span.beside in
    let s = c.args.span.now in
    let xs = c.args.keys.now in
    let d = c.index-keys-middle.result in
    let i = c.halves.low + (c.halves.high - c.halves.low) / 2 in
    let l : i < length xs = omega arith in
    let apart : is_from B s (get_or xs i d) ≡ false = ap (is_from B s) (sym c.index-keys-middle.is) ∙ ap (λ r. not (is_gt r)) (sym c.beside.ensures) ∙ ap not (sym c.is_gt.ensures ∙ c.if-is_gt.true) in
    record {
      bound = omega arith;
      within = c.halves.invariant.within;
      passed = up_to_middle B s (stays_from B s (g.met.S.Span.before s)) xs i d c.requires l apart;
      left = c.halves.invariant.left;
    }

pub halves-preserved : goal.halves-preserved
halves-preserved g c =
    let B = g.S.Span.beside in
    let s = c.args.span.now in
    let xs = c.args.keys.now in
    let d = c.index-keys-middle.result in
    let i = c.halves.low + (c.halves.high - c.halves.low) / 2 in
    let l : i < length xs = omega arith in
    let there : is_from B s (get_or xs i d) ≡ true = ap (is_from B s) (sym c.index-keys-middle.is) ∙ ap (λ r. not (is_gt r)) (sym c.beside.ensures) ∙ ap not (sym c.is_gt.ensures ∙ c.if-is_gt.false) in
    record {
      bound = omega arith;
      within = omega arith;
      passed = c.halves.invariant.passed;
      left = from_middle B s (stays_from B s (g.met.S.Span.before s)) xs i d c.requires l there;
    }

pub returns-clause-rest : goal.returns-clause-rest
returns-clause-rest g c =
    from_both (is_from g.S.Span.beside c.args.span.now) c.args.keys.now c.halves.low c.halves.high c.halves.invariant.bound c.halves-test.false c.halves.invariant.passed c.halves.invariant.left
