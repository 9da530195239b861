-- Which contexts are left out beside others, and what stands in for them.
-- https://www.drupal.org/docs/drupal-apis/cache-api/cache-contexts
use Rattle.std.specs.Prelude.{ℕ, List, ◌≡◌, ◌↔◌, Contains}
use Rattle.cacheability.specs.declared.cacheability.Cacheability.{Cacheability}
use Rattle.cacheability.specs.declared.tag.Tag.{Tag}
use Rattle.cacheability.specs.declared.context.Context.{Context}
use Rattle.content_state.specs.State.{State}
use Rattle.content_state.specs.declared.commit.Commit.{Commit}
use Rattle.content_state.specs.declared.ask.Ask.{Ask}
use Rattle.content_state.specs.declared.ask.Viewer.{Viewer}
use Rattle.content_state.specs.Ask.{IsAsk}
use Rattle.content_state.specs.Context.{Visit, value, above, dropped_tags}
use Rattle.content_state.specs.Plan.{CoversContext}
use Rattle.indexed_rows.specs.Rows.{InOrder}
use Rattle.state_commits.specs.Edits.{after, SameCounts}
use Rattle.cache_contexts.specs.Values.{visit_on}

-- a context that one of these makes redundant: it stands below it
abbrev pub IsRedundant : List Context → Context → Type 0
IsRedundant kept c = (u : Context) × Contains (above c) u × Contains kept u

-- a context is left out of all, and the tag is one of those that stand in for it
pub record StandsIn (v : Visit) (all kept : List Context) (t : Tag) : Type 0 where
  pub for : Context
  pub named : Contains all for
  pub left_out : Contains kept for → ⊥
  pub stands : Contains (dropped_tags v for) t

-- Of all contexts those are kept that no kept one makes redundant, and the tags are those that stand in for the others.
pub record LeavesOut (v : Visit) (all kept : List Context) (tags : List Tag) : Type 0 where
  pub kept_are : (c : Context) → Contains kept c ↔ (Contains all c × (IsRedundant kept c → ⊥))
  pub tags_are : (t : Tag) → Contains tags t ↔ StandsIn v all kept t

-- on both visits the contexts have the same values
abbrev pub SameValues : List Context → Visit → Visit → Type 0
SameValues contexts v w = (c : Context) → Contains contexts c → value v c ≡ value w c

-- Of two states of one log, either of which may be the earlier: where those that are kept have the same values for two
-- viewers and what they asked for, and none of the tags that stand in was invalidated in between, all have.
abbrev pub LeftOutStay : Type 0
LeftOutStay =
    (base : State) (log : List Commit) → InOrder base.rows
    → (j k : ℕ) (viewer viewer' : Viewer) (ask ask' : Ask) (moment moment' : ℕ) → IsAsk ask → IsAsk ask'
    → (all kept : List Context) (tags : List Tag)
    → LeavesOut (visit_on (after base log j) viewer ask moment) all kept tags
    → SameValues kept (visit_on (after base log j) viewer ask moment) (visit_on (after base log k) viewer' ask' moment')
    → SameCounts tags (after base log j) (after base log k)
    → SameValues all (visit_on (after base log j) viewer ask moment) (visit_on (after base log k) viewer' ask' moment')

-- all of these contexts are covered by what is said of them
abbrev pub AreCovered : Visit → List Context → Cacheability → ℕ → Type 0
AreCovered v contexts said last =
    (c : Context) → Contains contexts c → CoversContext v (record { tags = said.tags; contexts = said.contexts; last = last }) c
