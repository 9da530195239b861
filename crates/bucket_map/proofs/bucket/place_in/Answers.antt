use Rattle.std.proofs.Common.{arith, ◌≡◌, ◌∙◌, ◌+◌, ◌-◌, ◌<◌, ◌/◌, sym, get_or, length}
use Rattle.std.specs.declared.cmp.Ordering.TheVariants.{Less, Equal, Greater}
use Rattle.bucket_map.proofs.Search.{above_from, below_to, stands_at, goes_to}
use Rattle.bucket_map.proofs.bucket.place_in.Goals as goal

pub halves-preserved-in-Less : goal.halves-preserved-in-Less
halves-preserved-in-Less g c =
    let es = c.args.entries.now in
    let k = c.args.key.now in
    let i = c.halves.low + (c.halves.high - c.halves.low) / 2 in
    let d = c.index-entries-middle.result in
    let inside : i < length es = omega (arith, c.halves-test.true, c.halves.invariant.inside) in
    let at : g.K.Ord.cmp k ((get_or es i d).0) ≡ Less = sym c.cmp.ensures ∙ c.in-Less.is in
    record {
      within = omega arith;
      inside = omega (arith, inside);
      below = c.halves.invariant.below;
      above = above_from g.K.Ord.cmp g.met.K.Ord.total g.met.K.Placed.exact es k i d c.requires inside at;
    }

pub returns-in-Equal-clause-found : goal.returns-in-Equal-clause-found
returns-in-Equal-clause-found g c =
    let es = c.args.entries.now in
    let k = c.args.key.now in
    let i = c.halves.low + (c.halves.high - c.halves.low) / 2 in
    let d = c.index-entries-middle.result in
    let inside : i < length es = omega (arith, c.halves-test.true, c.halves.invariant.inside) in
    let at : g.K.Ord.cmp k ((get_or es i d).0) ≡ Equal = sym c.cmp.ensures ∙ c.in-Equal.is in
    stands_at g.K.Ord.cmp g.met.K.Ord.total g.met.K.Placed.exact es k i d c.requires inside at

pub halves-preserved : goal.halves-preserved
halves-preserved g c =
    let es = c.args.entries.now in
    let k = c.args.key.now in
    let i = c.halves.low + (c.halves.high - c.halves.low) / 2 in
    let d = c.index-entries-middle.result in
    let inside : i < length es = omega (arith, c.halves-test.true, c.halves.invariant.inside) in
    let at : g.K.Ord.cmp k ((get_or es i d).0) ≡ Greater = sym c.cmp.ensures ∙ c.in-Greater.is in
    record {
      within = omega (arith, c.halves-test.true);
      inside = c.halves.invariant.inside;
      below = below_to g.K.Ord.cmp g.met.K.Ord.total g.met.K.Placed.exact es k i d c.requires inside at;
      above = c.halves.invariant.above;
    }

pub returns-clause-absent : goal.returns-clause-absent
returns-clause-absent g c =
    goes_to g.K.Ord.cmp g.met.K.Ord.total g.met.K.Placed.exact c.args.entries.now c.args.key.now c.halves.low c.halves.high c.halves.invariant.within (omega (arith, c.halves-test.false)) c.halves.invariant.inside c.halves.invariant.below c.halves.invariant.above
