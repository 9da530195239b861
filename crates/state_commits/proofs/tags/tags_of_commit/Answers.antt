use Rattle.std.proofs.Common.{◌≡◌, List, [], subst, sym, take, rules}
use Rattle.std.specs.Cmp.{IsTotalOrder}
use Rattle.std.specs.Cmp.Rules.{comparing}
use Rattle.std.specs.List.{flat_map}
use Rattle.std.specs.List.Sorted.{IsStrictlySortedBy}
use Rattle.cacheability.specs.InOrder.{union}
use Rattle.cacheability.specs.Tag.{tag_cmp}
use Rattle.cacheability.specs.declared.tag.Tag.{Tag}
use Rattle.cacheability.proofs.InOrder.{sorted-union}
use Rattle.content_state.specs.Replay.{tags_of_write}
use Rattle.state_commits.proofs.tags.tags_of_commit.Goals as goal

total : IsTotalOrder tag_cmp
total = search (comparing, rules)

none_ordered : IsStrictlySortedBy tag_cmp []
unfolding IsStrictlySortedBy
none_ordered = tt

union_ordered : (tags more all : List Tag) → all ≡ union tag_cmp tags more → IsStrictlySortedBy tag_cmp tags → IsStrictlySortedBy tag_cmp all
union_ordered tags more all is ordered = subst (λ (l : List Tag). IsStrictlySortedBy tag_cmp l) (sym is) (sorted-union total tags more ordered)

pub returns-clause-ordered : goal.returns-clause-ordered
returns-clause-ordered c =
    union_ordered c.writes.tags c.as_slice-2.result.now c.add_all-2.new.tags c.in_ok-add_all-2.ensures (union_ordered [] (flat_map (tags_of_write c.args.rows.now) (take c.writes.write-index c.as_slice-write-items.result.now)) c.writes.tags c.writes.invariant none_ordered)
