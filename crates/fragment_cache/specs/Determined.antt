-- What a fragment shows is determined by what it depends on.
-- https://www.drupal.org/docs/drupal-apis/render-api/cacheability-of-render-arrays
use Rattle.std.specs.Prelude.{ℕ, List, ◌≡◌, ◌≤◌, Option}
use Rattle.cacheability.specs.declared.context.Context.{Context}
use Rattle.content_state.specs.declared.element.Library.{Library}
use Rattle.content_state.specs.Read.{Read, answer, cover}
use Rattle.content_state.specs.Context.{Visit, value}
use Rattle.content_state.specs.Plan.{Piece, Plan, Needs, AllIn, CoversContext, Made, Shows}

-- Two visits agree on what is needed: the reads that the tags cover have the same answers and the same covering tags, the
-- contexts that are covered have the same values and stay covered, and the second one isn't earlier.
pub record Agree (v w : Visit) (needs : Needs) : Type 0 where
  pub answers : (r : Read) → AllIn (cover v.rows r) needs.tags → answer v.rows r ≡ answer w.rows r
  pub covers : (r : Read) → AllIn (cover v.rows r) needs.tags → AllIn (cover w.rows r) needs.tags
  pub values : (c : Context) → CoversContext v needs c → value v c ≡ value w c
  pub contexts : (c : Context) → CoversContext v needs c → CoversContext w needs c
  pub not_before : v.moment ≤ w.moment

-- what the plan makes on one visit, it makes on another that agrees with it on the needs, and needs no more there
abbrev pub IsMadeAgain : {A : Type 0} → Plan A → Type 0
IsMadeAgain {A} p =
    (v w : Visit) (x : A) (shown : List Piece) (libraries : List Library) (needs : Needs)
    → Agree v w needs → Made p v x shown libraries needs → Made p w x shown libraries needs

abbrev pub PagesAreMadeAgain : Type 0
PagesAreMadeAgain = (p : Plan ℕ) → IsMadeAgain p

abbrev pub ElementsAreMadeAgain : Type 0
ElementsAreMadeAgain = (p : Plan (Unit {0})) → IsMadeAgain p

-- what is kept of an element: the status of a page, or none
abbrev pub EntriesAreMadeAgain : Type 0
EntriesAreMadeAgain = (p : Plan (Option ℕ)) → IsMadeAgain p

-- what the plan makes on one visit, it shows on another that agrees with it on the needs, until they are over
abbrev pub IsDetermined : {A : Type 0} → Plan A → Type 0
IsDetermined {A} p =
    (v w : Visit) (x : A) (shown : List Piece) (libraries : List Library) (needs : Needs)
    → Made p v x shown libraries needs → Agree v w needs → w.moment ≤ needs.last → Shows p w x shown libraries

abbrev pub PagesAreDetermined : Type 0
PagesAreDetermined = (p : Plan ℕ) → IsDetermined p

abbrev pub ElementsAreDetermined : Type 0
ElementsAreDetermined = (p : Plan (Unit {0})) → IsDetermined p
