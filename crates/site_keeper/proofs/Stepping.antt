-- The batch of an edit makes of what is kept of a state what is kept of the state after it.
use Rattle.std.proofs.Common.{◌≡◌, ◌≢◌, ◌∙◌, ◌+◌, ℕ, List, [], ◌∷◌, ◌++◌, Bool, false, cond, Some, refl, ap, sym, rules}
use Rattle.std.specs.List.{AllByRecursion, fold, flat_map}
use Rattle.std.specs.List.Sorted.{IsStrictlySortedBy}
use Rattle.std.specs.Ordering.{match_ordering}
use Rattle.std.specs.declared.cmp.Ordering.{Ordering}
use Rattle.std.specs.declared.cmp.Ordering.TheVariants.{Less, Equal, Greater}
use Rattle.std.specs.Cmp.{IsTotalOrder}
use Rattle.std.specs.Prelude.{unwrap_or}
use Rattle.std.specs.Map.{lookup}
use Rattle.std.specs.BTreeMap.{insert_entry, is_at}
use Rattle.std.specs.BTreeSet.{insert_key}
use Rattle.std.specs.Cmp.Rules.{comparing}
use Rattle.cacheability.specs.declared.tag.Tag.{Tag}
use Rattle.cacheability.specs.Tag.{tag_cmp}
use Rattle.cacheability.proofs.InOrder.{sorted-insert_key}
use Rattle.tag_counts.specs.Counts.{count_of, bumped}
use Rattle.tag_counts.proofs.Tags.{tag_cmp_exact, not_at_other}
use Rattle.content_rows.specs.declared.cell.Cell.{Cell}
use Rattle.content_rows.specs.declared.row.Row.{Row}
use Rattle.content_state.specs.State.{State}
use Rattle.content_state.specs.declared.commit.Commit.{Commit}
use Rattle.indexed_rows.specs.Write.{written}
use Rattle.content_state.specs.Replay.{step, tags_of_commit, tags_of_write}
use Rattle.site_keeper.specs.declared.stored.Stored.{Stored}
use Rattle.site_keeper.specs.Keeper.{with_batch, with_entry}
use Rattle.site_keeper.specs.Steps.{stored_of, batch_of, raised}

tags_total : IsTotalOrder tag_cmp
tags_total = search (comparing, rules)

-- ---- a count that is set, and the others

set_beside : (p : Tag → Bool) (k : Tag) (v : ℕ) (e : Tag × ℕ) (es es' : List (Tag × ℕ)) (o : Ordering) → p k ≡ false → (o ≡ Equal → k ≡ e.0)
    → lookup p es' ≡ lookup p es → lookup p (match_ordering o ((k, v) ∷ e ∷ es) ((e.0, v) ∷ es) (e ∷ es')) ≡ lookup p (e ∷ es)
set_beside p k v e es es' Less apart exact more = ap (λ b. cond b (Some v) (lookup p (e ∷ es))) apart
set_beside p k v e es es' Equal apart exact more =
    let here : p e.0 ≡ false = ap p (sym (exact refl)) ∙ apart in
    ap (λ b. cond b (Some v) (lookup p es)) here ∙ sym (ap (λ b. cond b (Some e.1) (lookup p es)) here)
set_beside p k v e es es' Greater apart exact more = ap (λ found. cond (p e.0) (Some e.1) found) more

lookup_other : (p : Tag → Bool) (k : Tag) (v : ℕ) → p k ≡ false → (es : List (Tag × ℕ)) → lookup p (insert_entry tag_cmp es k v) ≡ lookup p es
lookup_other p k v apart [] = ap (λ b. cond b (Some v) (lookup p [])) apart
lookup_other p k v apart (e ∷ es) =
    set_beside p k v e es (insert_entry tag_cmp es k v) (tag_cmp k e.0) apart (tag_cmp_exact k e.0) (lookup_other p k v apart es)

-- a tag that is below another is not that
below_apart : (t u : Tag) → tag_cmp t u ≡ Less → t ≢ u
below_apart t u below same =
    let level : tag_cmp u u ≡ Less = ap (λ x. tag_cmp x u) (sym same) ∙ below in
    let turned = tags_total.antisymm u u in
    cc

count_other : (counts : List (Tag × ℕ)) (t u : Tag) (n : ℕ) → tag_cmp t u ≡ Less → count_of (with_entry counts (t, n)) u ≡ count_of counts u
count_other counts t u n below =
    ap (λ found. unwrap_or found 0) (lookup_other (is_at (tag_cmp u)) t n (not_at_other u t (below_apart t u below)) counts)

-- ---- counts that are raised in turn

-- each of these tags has the same count in both
SameCounts : List (Tag × ℕ) → List (Tag × ℕ) → List Tag → Type 0
SameCounts now counts tags = AllByRecursion (λ u. count_of now u ≡ count_of counts u) tags

same_counts : (counts : List (Tag × ℕ)) (tags : List Tag) → SameCounts counts counts tags
unfolding SameCounts
same_counts counts [] = tt
same_counts counts (u ∷ tags) = (refl, same_counts counts tags)

same_after : (now counts : List (Tag × ℕ)) (t : Tag) (n : ℕ) (tags : List Tag) → AllByRecursion (λ u. tag_cmp t u ≡ Less) tags
    → SameCounts now counts tags → SameCounts (with_entry now (t, n)) counts tags
unfolding SameCounts
same_after now counts t n [] below same = tt
same_after now counts t n (u ∷ tags) below same =
    (count_other now t u n below.0 ∙ same.0, same_after now counts t n tags below.1 same.1)

-- Tags in order, with counts that are one more than in some counts: setting them raises each tag of others that have the
-- same counts of them by one.
Raises : List (Tag × ℕ) → List (Tag × ℕ) → List Tag → Type 0
Raises now counts tags = fold with_entry now (raised counts tags) ≡ fold bumped now tags

raised_in_turn : (now counts : List (Tag × ℕ)) (tags : List Tag) → IsStrictlySortedBy tag_cmp tags → SameCounts now counts tags → Raises now counts tags
unfolding IsStrictlySortedBy SameCounts Raises
raised_in_turn now counts [] sorted same = refl
raised_in_turn now counts (t ∷ tags) sorted same =
    let more : count_of counts t + 1 ≡ count_of now t + 1 = ap (λ n. n + 1) (sym same.0) in
    raised_in_turn (with_entry now (t, count_of counts t + 1)) counts tags sorted.1 (same_after now counts t (count_of counts t + 1) tags sorted.0 same.1)
    ∙ ap (λ n. fold bumped (insert_entry tag_cmp now t n) tags) more

sorted_all : (keys tags : List Tag) → IsStrictlySortedBy tag_cmp keys → IsStrictlySortedBy tag_cmp (fold (insert_key tag_cmp) keys tags)
sorted_all keys [] sorted = sorted
sorted_all keys (t ∷ tags) sorted = sorted_all (insert_key tag_cmp keys t) tags (sorted-insert_key tags_total keys t sorted)

no_tags : IsStrictlySortedBy tag_cmp []
unfolding IsStrictlySortedBy
no_tags = tt

commit_raises : (state : State) (commit : Commit) → Raises state.counts state.counts (tags_of_commit state.rows commit)
commit_raises state commit =
    raised_in_turn state.counts state.counts (tags_of_commit state.rows commit) (sorted_all [] (flat_map (tags_of_write state.rows) commit.writes ++ commit.extra) no_tags) (same_counts state.counts (tags_of_commit state.rows commit))

-- ---- what is kept

parts : List (Cell × Row) → ℕ → List (Tag × ℕ) → Stored
parts rows head counts = record { rows = rows; counts = counts; head = head }

pub keeps_step : (state : State) (commit : Commit) → with_batch (stored_of state) (batch_of state commit) ≡ stored_of (step state commit)
unfolding Raises step with_batch parts
keeps_step state commit = ap (parts (fold written state.rows commit.writes) (state.number + 1)) (commit_raises state commit)
