use Rattle.std.proofs.Common.{rules, ◌≡◌, ◌≤◌, ◌+◌, ◌<◌, ◌∙◌, ap, sym, subst, length}
use Rattle.std.specs.Map.{remove_entry}
use Rattle.std.specs.BTreeMap.{is_at}
use Rattle.bucket_map.proofs.InBuckets.{none_in_buckets}
use Rattle.bucket_map.proofs.Changed.{own_sorted, own_size, own_part, new_size, placed_cut, map_cut}
use Rattle.bucket_map.proofs.map.BucketMap.remove.Goals as goal

pub without-requires : goal.without-requires
without-requires g c =
    let bs = c.self.inside.buckets.items in
    let within : c.place-at.result < length bs = search rules in
    own_sorted g.K.Ord.cmp g.met.K.Ord.total g.met.K.Placed.exact g.K.Placed.place bs c.self.invariant.0 c.args.key.now c.place-at.result c.index.result.now c.place-at.ensures within c.index.ensures

pub returns-in_err-bucket-clause-cost : goal.returns-in_err-bucket-clause-cost
returns-in_err-bucket-clause-cost g c =
    let bs = c.self.inside.buckets.items in
    let within : c.place-at.result < length bs = search rules in
    let size = own_size g.K.Ord.cmp g.met.K.Ord.total g.met.K.Placed.exact g.K.Placed.place bs c.self.invariant.0 c.args.key.now c.place-at.result c.index.result.now c.place-at.ensures within c.index.ensures c.args.self.now c.self.view_is in
    subst (λ m. c.without.new.steps ≤ c.args.steps.now + m) size c.without.ensures.cost

pub size_with-requires : goal.size_with-requires
size_with-requires g c =
    let bs = c.self.inside.buckets.items in
    let x = c.index-then-at-len.result.now in
    let within : c.place-at.result < length bs = search rules in
    let same : x ≡ c.as_slice.result.now = search rules in
    subst (λ l. length l ≤ c.self.inside.size) same
    (own_part g.K.Ord.cmp g.met.K.Ord.total g.met.K.Placed.exact g.K.Placed.place bs c.self.invariant.0 c.args.key.now c.place-at.result x c.place-at.ensures within c.index-then-at-len.ensures c.self.inside.size c.self.invariant.1)

pub returns-in_err-size-clause-cost : goal.returns-in_err-size-clause-cost
returns-in_err-size-clause-cost g c =
    let bs = c.self.inside.buckets.items in
    let within : c.place-at.result < length bs = search rules in
    let size = own_size g.K.Ord.cmp g.met.K.Ord.total g.met.K.Placed.exact g.K.Placed.place bs c.self.invariant.0 c.args.key.now c.place-at.result c.index.result.now c.place-at.ensures within c.index.ensures c.args.self.now c.self.view_is in
    subst (λ m. c.without.new.steps ≤ c.args.steps.now + m) size c.without.ensures.cost

pub invariant_of-self : goal.invariant_of-self
invariant_of-self g c =
    let bs = c.self.inside.buckets.items in
    let x = c.index-then-at-len.result.now in
    let b = c.in_ok-bucket.bucket in
    let within : c.place-at.result < length bs = search rules in
    let new : b ≡ remove_entry (is_at (g.K.Ord.cmp c.args.key.now)) c.index.result.now = search rules in
    let changed : c.in_ok-size.size + length x ≡ c.self.inside.size + length b = search rules in (
      placed_cut g.K.Ord.cmp g.met.K.Ord.total g.met.K.Placed.exact g.K.Placed.place bs c.self.invariant.0 c.args.key.now c.place-at.result c.index.result.now c.place-at.ensures within c.index.ensures b new,
      new_size g.K.Ord.cmp g.met.K.Ord.total g.met.K.Placed.exact g.K.Placed.place bs c.self.invariant.0 c.args.key.now c.place-at.result x c.place-at.ensures within c.index-then-at-len.ensures b c.self.inside.size c.in_ok-size.size c.self.invariant.1 changed,
    )

pub returns-in_ok-size-clause-ok : goal.returns-in_ok-size-clause-ok
returns-in_ok-size-clause-ok g c =
    let bs = c.self.inside.buckets.items in
    let b = c.in_ok-bucket.bucket in
    let within : c.place-at.result < length bs = search rules in
    let new : b ≡ remove_entry (is_at (g.K.Ord.cmp c.args.key.now)) c.index.result.now = search rules in
    map_cut g.K.Ord.cmp g.met.K.Ord.total g.met.K.Placed.exact g.K.Placed.place bs c.self.invariant.0 c.args.key.now c.place-at.result c.index.result.now c.place-at.ensures within c.index.ensures b new c.args.self.now c.self.view_is

pub returns-in_ok-size-clause-cost : goal.returns-in_ok-size-clause-cost
returns-in_ok-size-clause-cost g c =
    let bs = c.self.inside.buckets.items in
    let within : c.place-at.result < length bs = search rules in
    let size = own_size g.K.Ord.cmp g.met.K.Ord.total g.met.K.Placed.exact g.K.Placed.place bs c.self.invariant.0 c.args.key.now c.place-at.result c.index.result.now c.place-at.ensures within c.index.ensures c.args.self.now c.self.view_is in
    subst (λ m. c.without.new.steps ≤ c.args.steps.now + m) size c.without.ensures.cost

pub returns-else-at-len-clause-ok : goal.returns-else-at-len-clause-ok
returns-else-at-len-clause-ok g c =
    let bs = c.self.inside.buckets.items in
    let R = g.K.Ord.cmp in
    let k = c.args.key.now in
    let past : length bs ≤ g.K.Placed.place k = search rules in
    sym c.self.view_is
    ∙ sym (none_in_buckets R g.met.K.Ord.total g.met.K.Placed.exact g.K.Placed.place bs c.self.invariant.0 k past)
    ∙ ap (λ es. remove_entry (is_at (R k)) es) c.self.view_is
