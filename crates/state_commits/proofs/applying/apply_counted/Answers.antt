use Rattle.std.proofs.Common.{rules, arith, ◌≡◌, refl, length}
use Rattle.bucket_map.proofs.Sizes.{steps_of_both}
use Rattle.content_state.specs.Replay.{tags_of_commit}
use Rattle.state_commits.proofs.Cost.{cost_of_edit}
use Rattle.state_commits.proofs.applying.apply_counted.Goals as goal

pub returns-in_err-bump_all-clause-cost : goal.returns-in_err-bump_all-clause-cost
returns-in_err-bump_all-clause-cost g c =
    let state = c.args.state.now in
    let commit = c.args.commit.now in
    let tags = c.as_slice-2.result.now in
    let counts_is : c.in_ok-counts.counts ≡ state.counts = search rules in
    let tags_is : tags ≡ tags_of_commit state.rows commit = search rules in
    cost_of_edit state commit state.rows c.in_ok-counts.counts commit.writes tags c.args.steps.now c.bump_all.new.steps refl counts_is refl tags_is
    (λ most own bumped. steps_of_both c.args.steps.now c.bump_all.new.steps c.bump_all.new.steps most (length commit.writes) (length tags) (c.bump_all.ensures.cost most bumped) (omega arith))

pub returns-in_err-after-clause-cost : goal.returns-in_err-after-clause-cost
returns-in_err-after-clause-cost g c =
    let state = c.args.state.now in
    let commit = c.args.commit.now in
    let tags = c.as_slice-2.result.now in
    let writes = c.as_slice-3.result.now in
    let counts_is : c.in_ok-counts.counts ≡ state.counts = search rules in
    let writes_is : writes ≡ commit.writes = search rules in
    let tags_is : tags ≡ tags_of_commit state.rows commit = search rules in
    cost_of_edit state commit state.rows c.in_ok-counts.counts writes tags c.args.steps.now c.after.new.steps refl counts_is writes_is tags_is
    (λ most own bumped. steps_of_both c.args.steps.now c.bump_all.new.steps c.after.new.steps most (length writes) (length tags) (c.bump_all.ensures.cost most bumped) (c.after.ensures.cost most own))

pub returns-in_err-new-clause-cost : goal.returns-in_err-new-clause-cost
returns-in_err-new-clause-cost g c =
    let state = c.args.state.now in
    let commit = c.args.commit.now in
    let tags = c.as_slice-2.result.now in
    let writes = c.as_slice-3.result.now in
    let counts_is : c.in_ok-counts.counts ≡ state.counts = search rules in
    let writes_is : writes ≡ commit.writes = search rules in
    let tags_is : tags ≡ tags_of_commit state.rows commit = search rules in
    cost_of_edit state commit state.rows c.in_ok-counts.counts writes tags c.args.steps.now c.after.new.steps refl counts_is writes_is tags_is
    (λ most own bumped. steps_of_both c.args.steps.now c.bump_all.new.steps c.after.new.steps most (length writes) (length tags) (c.bump_all.ensures.cost most bumped) (c.after.ensures.cost most own))

pub returns-clause-cost : goal.returns-clause-cost
returns-clause-cost g c =
    let state = c.args.state.now in
    let commit = c.args.commit.now in
    let tags = c.as_slice-2.result.now in
    let writes = c.as_slice-3.result.now in
    let counts_is : c.in_ok-counts.counts ≡ state.counts = search rules in
    let writes_is : writes ≡ commit.writes = search rules in
    let tags_is : tags ≡ tags_of_commit state.rows commit = search rules in
    cost_of_edit state commit state.rows c.in_ok-counts.counts writes tags c.args.steps.now c.after.new.steps refl counts_is writes_is tags_is
    (λ most own bumped. steps_of_both c.args.steps.now c.bump_all.new.steps c.after.new.steps most (length writes) (length tags) (c.bump_all.ensures.cost most bumped) (c.after.ensures.cost most own))
