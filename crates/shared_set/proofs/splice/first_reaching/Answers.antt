use Rattle.std.proofs.Common.{arith, ◌≡◌, ◌∙◌, ◌+◌, ◌-◌, ◌/◌, ◌<◌, true, false, sym, ap, subst, length, get_or, []}
use Rattle.std.proofs.lemmas.List.{get_or_read}
use Rattle.shared_set.specs.Keys.{reaches}
use Rattle.shared_set.proofs.Ends.{from_on}
use Rattle.shared_set.proofs.Splits.{reaches_up_to}
use Rattle.shared_set.proofs.splice.first_reaching.Goals as goal

pub halves-preserved-then-reaches : goal.halves-preserved-then-reaches
halves-preserved-then-reaches g c =
    let bs = c.args.chunks.now in
    let i = c.halves.low + (c.halves.high - c.halves.low) / 2 in
    let x = c.index-chunks-middle.result in
    let l : i < length bs = omega arith in
    let read : x ≡ get_or bs i [] = get_or_read bs i x l c.index-chunks-middle.is [] in
    record {
      bound = omega arith;
      within = omega arith;
      passed = c.halves.invariant.passed;
      there = λ _. ap (reaches g.K.Ord.cmp c.args.key.now) (sym read) ∙ sym c.reaches.ensures.same ∙ c.if-reaches.true;
    }

pub halves-preserved : goal.halves-preserved
halves-preserved g c =
    let bs = c.args.chunks.now in
    let i = c.halves.low + (c.halves.high - c.halves.low) / 2 in
    let x = c.index-chunks-middle.result in
    let l : i < length bs = omega arith in
    let read : x ≡ get_or bs i [] = get_or_read bs i x l c.index-chunks-middle.is [] in
    let some : 0 < length (get_or bs i []) = subst (λ b. 0 < length b) read c.reaches.ensures.some in
    let not_there : reaches g.K.Ord.cmp c.args.key.now (get_or bs i []) ≡ false = ap (reaches g.K.Ord.cmp c.args.key.now) (sym read) ∙ sym c.reaches.ensures.same ∙ c.if-reaches.false in
    record {
      bound = omega arith;
      within = c.halves.invariant.within;
      passed = reaches_up_to g.K.Ord.cmp c.args.key.now (from_on g.met.K.Ord.total c.args.key.now) bs i l c.requires some not_there;
      there = c.halves.invariant.there;
    }
