-- An engine as it is opened, and what comes back where none is.
use Rattle.std.specs.Prelude.{ℕ, [], ◌≡◌, Bool, Option, Some, None}
use Rattle.std.specs.NonZero.{non_zero_usize_get}
use Rattle.std.specs.Option.{ForSome}
use Rattle.content_state.specs.State.{State}
use Rattle.content_state.specs.declared.site_rules.Refusal.{Refusal}
use Rattle.content_state.specs.declared.site_rules.Refusal.TheVariants as refusal
use Rattle.site_keeper.specs.Keeper.{Kept}
use Rattle.site_keeper.specs.declared.stored.Stored.{Stored}
use Rattle.site_hall.specs.Stock.{Stock, Holding, empty_bins, no_tally}
use Rattle.site_hall.specs.Hall.{HallView}
use Rattle.site_hall.specs.declared.stock.Rooms.{Rooms}

-- the state that a keeper holds
abbrev pub state_in : Stored → State
state_in stored = record { rows = stored.rows; counts = stored.counts; number = stored.head }

-- nothing is kept of pages yet, in bins with room for so many things, and nothing was looked for
abbrev pub stock_with : ℕ → ℕ → ℕ → Stock
stock_with fragments dynamic anonymous = Holding (empty_bins fragments dynamic anonymous) no_tally

abbrev pub stock_in : Rooms → Stock
stock_in rooms =
    stock_with (non_zero_usize_get rooms.fragments) (non_zero_usize_get rooms.dynamic) (non_zero_usize_get rooms.anonymous)

-- no edit is published yet, and none is pending
abbrev pub opened_in : Stock → Stored → Option Kept → ℕ → Bool → HallView
opened_in stock stored kept faults steadfast = record {
  base = state_in stored;
  log = [];
  pending = None;
  opened = kept;
  kept = kept;
  faults = faults;
  steadfast = steadfast;
  stock = stock;
}

-- with the bins of the program
abbrev pub opened_with : Stored → Option Kept → ℕ → Bool → HallView
opened_with stored kept faults steadfast = opened_in (stock_with 4096 1024 1024) stored kept faults steadfast

-- what was to be loaded comes back, unless memory was wanting once it was found to be a site
abbrev pub IsBack : Refusal → Option Stored → Stored → Type 0
IsBack (refusal.NoSite fault) back stored = back ≡ Some stored
IsBack refusal.OutOfMemory back stored = ForSome back (λ s. s ≡ stored)
