use Rattle.std.proofs.Common.{rules, ◌≡◌, ◌≤◌, ◌+◌, ◌<◌, ◌∙◌, ap, sym, subst, cond, length, slice_set}
use Rattle.bucket_map.specs.Buckets.{flat, in_order, ArePlaced}
use Rattle.bucket_map.proofs.Changed.{own_sorted, own_size, new_size, kept, placed_put, map_put}
use Rattle.bucket_map.proofs.map.BucketMap.put.Goals as goal

pub invariant_of-self : goal.invariant_of-self
invariant_of-self g c = (c.fill.ensures.placed c.self.invariant.0, c.self.invariant.1 ∙ ap length (sym c.fill.ensures.same))

pub invariant_of-self-in_default : goal.invariant_of-self-in_default
invariant_of-self-in_default g c = (c.fill.ensures.placed c.self.invariant.0, c.self.invariant.1 ∙ ap length (sym c.fill.ensures.same))

pub returns-in_default-clause-err : goal.returns-in_default-clause-err
returns-in_default-clause-err g c = ap (λ es. in_order g.K.Ord.cmp es) c.fill.ensures.same ∙ c.self.view_is

pub put-requires : goal.put-requires
put-requires g c =
    let bs = c.fill.new.buckets.items in
    let placed = c.fill.ensures.placed c.self.invariant.0 in
    let within : c.place.result < length bs = search rules in
    own_sorted g.K.Ord.cmp g.met.K.Ord.total g.met.K.Placed.exact g.K.Placed.place bs placed c.args.key.now c.place.result c.index_mut-bucket.result.now c.place.ensures within c.index_mut-bucket.ensures.value

pub invariant_of-self-in_err-put : goal.invariant_of-self-in_err-put
invariant_of-self-in_err-put g c =
    let bs = c.fill.new.buckets.items in
    let placed = c.fill.ensures.placed c.self.invariant.0 in
    let within : c.place.result < length bs = search rules in
    let same = kept g.K.Ord.cmp g.met.K.Ord.total g.met.K.Placed.exact g.K.Placed.place bs placed c.args.key.now c.place.result c.index_mut-bucket.result.now c.place.ensures within c.index_mut-bucket.ensures.value c.put.new.self c.in_err-put.ensures.err in
    (subst (ArePlaced g.K.Ord.cmp g.K.Placed.place 0) (sym same) placed, c.self.invariant.1 ∙ ap length (sym c.fill.ensures.same) ∙ ap (λ l. length (flat l)) (sym same))

pub returns-in_err-put-clause-err : goal.returns-in_err-put-clause-err
returns-in_err-put-clause-err g c =
    let bs = c.fill.new.buckets.items in
    let placed = c.fill.ensures.placed c.self.invariant.0 in
    let within : c.place.result < length bs = search rules in
    let same = kept g.K.Ord.cmp g.met.K.Ord.total g.met.K.Placed.exact g.K.Placed.place bs placed c.args.key.now c.place.result c.index_mut-bucket.result.now c.place.ensures within c.index_mut-bucket.ensures.value c.put.new.self c.in_err-put.ensures.err in
    let map : in_order g.K.Ord.cmp (flat (slice_set bs c.place.result c.put.new.self)) ≡ c.args.self.now = ap (λ l. in_order g.K.Ord.cmp (flat l)) same ∙ ap (λ es. in_order g.K.Ord.cmp es) c.fill.ensures.same ∙ c.self.view_is in
    search rules

pub returns-in_err-put-clause-cost : goal.returns-in_err-put-clause-cost
returns-in_err-put-clause-cost g c =
    let bs = c.fill.new.buckets.items in
    let placed = c.fill.ensures.placed c.self.invariant.0 in
    let within : c.place.result < length bs = search rules in
    let map = ap (λ es. in_order g.K.Ord.cmp es) c.fill.ensures.same ∙ c.self.view_is in
    let size = own_size g.K.Ord.cmp g.met.K.Ord.total g.met.K.Placed.exact g.K.Placed.place bs placed c.args.key.now c.place.result c.index_mut-bucket.result.now c.place.ensures within c.index_mut-bucket.ensures.value c.args.self.now map in
    subst (λ m. c.put.new.steps ≤ c.args.steps.now + (m + 1)) size c.put.ensures.cost

pub invariant_of-self-then-branch : goal.invariant_of-self-then-branch
invariant_of-self-then-branch g c =
    let bs = c.fill.new.buckets.items in
    let placed = c.fill.ensures.placed c.self.invariant.0 in
    let within : c.place.result < length bs = search rules in
    let x = c.index_mut-bucket.result.now in
    let b = c.put.new.self in
    let grown : length b ≡ length x + 1 = c.in_ok-put.ensures.size ∙ ap (λ t. length x + cond t 1 0) c.if-branch.true in
    let changed : c.in-Some.one_more + length x ≡ c.self.inside.size + length b = search rules in (
      placed_put g.K.Ord.cmp g.met.K.Ord.total g.met.K.Placed.exact g.K.Placed.place bs placed c.args.key.now c.place.result c.index_mut-bucket.result.now c.place.ensures within c.index_mut-bucket.ensures.value b c.args.value.now c.in_ok-put.ensures.ok,
      new_size g.K.Ord.cmp g.met.K.Ord.total g.met.K.Placed.exact g.K.Placed.place bs placed c.args.key.now c.place.result c.index_mut-bucket.result.now c.place.ensures within c.index_mut-bucket.ensures.value b c.self.inside.size c.in-Some.one_more (c.self.invariant.1 ∙ ap length (sym c.fill.ensures.same)) changed,
    )

pub invariant_of-self-else-branch : goal.invariant_of-self-else-branch
invariant_of-self-else-branch g c =
    let bs = c.fill.new.buckets.items in
    let placed = c.fill.ensures.placed c.self.invariant.0 in
    let within : c.place.result < length bs = search rules in
    let x = c.index_mut-bucket.result.now in
    let b = c.put.new.self in
    let grown : length b ≡ length x + 0 = c.in_ok-put.ensures.size ∙ ap (λ t. length x + cond t 1 0) c.if-branch.false in
    let changed : c.self.inside.size + length x ≡ c.self.inside.size + length b = search rules in (
      placed_put g.K.Ord.cmp g.met.K.Ord.total g.met.K.Placed.exact g.K.Placed.place bs placed c.args.key.now c.place.result c.index_mut-bucket.result.now c.place.ensures within c.index_mut-bucket.ensures.value b c.args.value.now c.in_ok-put.ensures.ok,
      new_size g.K.Ord.cmp g.met.K.Ord.total g.met.K.Placed.exact g.K.Placed.place bs placed c.args.key.now c.place.result c.index_mut-bucket.result.now c.place.ensures within c.index_mut-bucket.ensures.value b c.self.inside.size c.self.inside.size (c.self.invariant.1 ∙ ap length (sym c.fill.ensures.same)) changed,
    )

pub returns-then-branch-clause-ok : goal.returns-then-branch-clause-ok
returns-then-branch-clause-ok g c =
    let bs = c.fill.new.buckets.items in
    let placed = c.fill.ensures.placed c.self.invariant.0 in
    let within : c.place.result < length bs = search rules in
    let map = ap (λ es. in_order g.K.Ord.cmp es) c.fill.ensures.same ∙ c.self.view_is in
    map_put g.K.Ord.cmp g.met.K.Ord.total g.met.K.Placed.exact g.K.Placed.place bs placed c.args.key.now c.place.result c.index_mut-bucket.result.now c.place.ensures within c.index_mut-bucket.ensures.value c.put.new.self c.args.value.now c.in_ok-put.ensures.ok c.args.self.now map

pub returns-then-branch-clause-cost : goal.returns-then-branch-clause-cost
returns-then-branch-clause-cost g c =
    let bs = c.fill.new.buckets.items in
    let placed = c.fill.ensures.placed c.self.invariant.0 in
    let within : c.place.result < length bs = search rules in
    let map = ap (λ es. in_order g.K.Ord.cmp es) c.fill.ensures.same ∙ c.self.view_is in
    let size = own_size g.K.Ord.cmp g.met.K.Ord.total g.met.K.Placed.exact g.K.Placed.place bs placed c.args.key.now c.place.result c.index_mut-bucket.result.now c.place.ensures within c.index_mut-bucket.ensures.value c.args.self.now map in
    subst (λ m. c.put.new.steps ≤ c.args.steps.now + (m + 1)) size c.put.ensures.cost

pub returns-else-branch-clause-ok : goal.returns-else-branch-clause-ok
returns-else-branch-clause-ok g c =
    let bs = c.fill.new.buckets.items in
    let placed = c.fill.ensures.placed c.self.invariant.0 in
    let within : c.place.result < length bs = search rules in
    let map = ap (λ es. in_order g.K.Ord.cmp es) c.fill.ensures.same ∙ c.self.view_is in
    map_put g.K.Ord.cmp g.met.K.Ord.total g.met.K.Placed.exact g.K.Placed.place bs placed c.args.key.now c.place.result c.index_mut-bucket.result.now c.place.ensures within c.index_mut-bucket.ensures.value c.put.new.self c.args.value.now c.in_ok-put.ensures.ok c.args.self.now map

pub returns-else-branch-clause-cost : goal.returns-else-branch-clause-cost
returns-else-branch-clause-cost g c =
    let bs = c.fill.new.buckets.items in
    let placed = c.fill.ensures.placed c.self.invariant.0 in
    let within : c.place.result < length bs = search rules in
    let map = ap (λ es. in_order g.K.Ord.cmp es) c.fill.ensures.same ∙ c.self.view_is in
    let size = own_size g.K.Ord.cmp g.met.K.Ord.total g.met.K.Placed.exact g.K.Placed.place bs placed c.args.key.now c.place.result c.index_mut-bucket.result.now c.place.ensures within c.index_mut-bucket.ensures.value c.args.self.now map in
    subst (λ m. c.put.new.steps ≤ c.args.steps.now + (m + 1)) size c.put.ensures.cost
