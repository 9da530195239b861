-- Which blocks are lazy: those that are left out of the page that is kept for whoever views it, and filled in for each viewer.
-- https://www.drupal.org/docs/drupal-apis/render-api/auto-placeholdering
use Rattle.std.specs.Prelude.{ℕ, List, ◌≡◌, ◌==◌, Bool, true, false, Option, Some, None, unwrap_or}
use Rattle.cacheability.specs.declared.cacheability.Cacheability.{Cacheability}
use Rattle.cacheability.specs.InOrder.{HasBoth}
use Rattle.content_rows.specs.declared.row.Block.{Block}
use Rattle.content_rows.specs.declared.row.BlockKind.{BlockKind}
use Rattle.content_rows.specs.declared.row.BlockKind.TheVariants as kind
use Rattle.content_rows.specs.declared.row.Listing.{Listing}
use Rattle.content_state.specs.Read.{BlockRow, ListingRow}
use Rattle.content_state.specs.Context.{Visit}
use Rattle.content_state.specs.Plan.{Plan, Done, reading, ◌>>=◌}
use Rattle.content_state.specs.Met.{met, result_of}
use Rattle.content_state.specs.State.{State}

-- an age of no second: what has it may be shown at its own moment alone
abbrev pub is_momentary : Option ℕ → Bool
is_momentary None = false
is_momentary (Some age) = age == 0

abbrev pub listing_is_momentary : Option Listing → Bool
listing_is_momentary None = false
listing_is_momentary (Some listing) = is_momentary listing.age

abbrev pub is_lazy_listing : Option (List ℕ) → Plan Bool
is_lazy_listing None = Done false
is_lazy_listing (Some name) = reading (ListingRow name) >>= λ listing. Done (listing_is_momentary listing)

-- What its kind declares makes a block lazy: a greeting varies by the user, a value that guards forms by the session, and a clock
-- and a listing may be of age 0.
abbrev pub is_lazy_kind : BlockKind → Block → Plan Bool
is_lazy_kind kind.Text block = Done false
is_lazy_kind kind.Menu block = Done false
is_lazy_kind kind.Listing block = is_lazy_listing block.name
is_lazy_kind kind.Greeting block = Done true
is_lazy_kind kind.Csrf block = Done true
is_lazy_kind kind.Clock block = Done (unwrap_or block.age 0 == 0)

abbrev pub is_lazy_block : Option Block → Plan Bool
is_lazy_block None = Done false
is_lazy_block (Some block) = is_lazy_kind block.kind block

-- whether the block of a name is lazy
abbrev pub is_lazy : List ℕ → Plan Bool
is_lazy name = reading (BlockRow name) >>= is_lazy_block

-- On a visit the plan gives this, and just the tags that it meets were told besides.
pub record Tells (p : Plan Bool) (v : Visit) (old : Cacheability) (lazy : Bool) (new : Cacheability) : Type 0 where
  pub result : lazy ≡ result_of p v
  pub tags : HasBoth old.tags (met p v).tags new.tags
  pub contexts : new.contexts ≡ old.contexts
  pub age : new.max_age ≡ old.max_age

-- so it is on each visit of a state
abbrev pub TellsOn : State → Plan Bool → Cacheability → Bool → Cacheability → Type 0
TellsOn state p old lazy new = (v : Visit) → v.rows ≡ state.rows → Tells p v old lazy new
