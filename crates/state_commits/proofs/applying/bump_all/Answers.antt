use Rattle.std.proofs.Common.{rules, arith, ◌≡◌, ◌≤◌, ◌<◌, ◌+◌, ◌*◌, length, subst, sym}
use Rattle.bucket_map.specs.Buckets.{bucket_size}
use Rattle.bucket_map.proofs.Sizes.{size_put, steps_more, steps_all}
use Rattle.cacheability.specs.Tag.{tag_cmp}
use Rattle.tag_counts.specs.Counts.{bumped, count_of}
use Rattle.tag_counts.specs.Key.{tag_place}
use Rattle.state_commits.proofs.Counted.{room_for}
use Rattle.indexed_rows.proofs.WriteCost.{fold_more}
use Rattle.state_commits.proofs.applying.bump_all.Goals as goal

pub bump-requires : goal.bump-requires
bump-requires g c =
    room_for c.args.tags.now c.args.counts.now c.tags.counts c.tags.tag-index c.tag-item.result c.requires.ordered c.requires.none_full c.tags-test.true c.tags.invariant.same c.tag-item.is

pub returns-in_err-bump-clause-cost : goal.returns-in_err-bump-clause-cost
returns-in_err-bump-clause-cost g c most h =
    let tags = c.args.tags.now in
    let i = c.tags.tag-index in
    let tag = c.tag-item.result in
    steps_all c.args.steps.now c.bump.new.steps (most + length tags) (i + 1) (length tags)
    (steps_more tag_place c.args.counts.now most tags i tag tag c.args.steps.now c.tags.steps c.bump.new.steps (bucket_size tag_place c.tags.counts (tag_place tag)) h c.tags-test.true c.tag-item.is (c.tags.invariant.cost most h) c.bump.ensures.cost (c.tags.invariant.sizes (tag_place tag)))
    (omega (arith, c.tags-test.true))

pub tags-preserved : goal.tags-preserved
tags-preserved g c =
    let tags = c.args.tags.now in
    let i = c.tags.tag-index in
    let tag = c.tag-item.result in
    let made : c.bump.new.counts ≡ bumped c.tags.counts tag = search rules in
    record {
      same = fold_more bumped c.args.counts.now c.tags.counts c.bump.new.counts tags i tag c.tags-test.true c.tag-item.is c.tags.invariant.same made;
      sizes = λ n.
          let one = subst (λ l. bucket_size tag_place l n ≤ bucket_size tag_place c.tags.counts n + 1) (sym made) (size_put tag_cmp tag_place c.tags.counts tag (count_of c.tags.counts tag + 1) n) in
          let all = c.tags.invariant.sizes n in
          omega arith;
      cost = λ most h. steps_more tag_place c.args.counts.now most tags i tag tag c.args.steps.now c.tags.steps c.bump.new.steps (bucket_size tag_place c.tags.counts (tag_place tag)) h c.tags-test.true c.tag-item.is (c.tags.invariant.cost most h) c.bump.ensures.cost (c.tags.invariant.sizes (tag_place tag));
    }

pub returns-clause-cost : goal.returns-clause-cost
returns-clause-cost g c most h =
    steps_all c.args.steps.now c.tags.steps (most + length c.args.tags.now) c.tags.tag-index (length c.args.tags.now) (c.tags.invariant.cost most h) (omega arith)
