-- The ground of a job: the state that a keeper holds.
use Rattle.std.specs.Prelude.{[], ◌≡◌, ◌≢◌, ◌≤◌, ◌<◌, ◌^◌, ◌⊎◌, Option}
use Rattle.content_rows.specs.declared.cell.Cell.TheVariants as cell
use Rattle.content_state.specs.State.{State}
use Rattle.content_state.specs.SiteRules.{IsNoSite, IsValidState}
use Rattle.content_state.specs.declared.site_rules.NotASite.{NotASite}
use Rattle.content_state.specs.declared.site_rules.SiteRule.TheVariants as rule
use Rattle.content_state.specs.declared.site_rules.SiteField.TheVariants as field
use Rattle.site_keeper.specs.Keeper.{Kept, IfTold}
use Rattle.site_keeper.specs.Steps.{stored_of}
use Rattle.site_keeper.specs.declared.stored.Stored.{Stored}

-- the state of what is stored
abbrev pub state_of : Stored → State
state_of stored = record { rows = stored.rows; counts = stored.counts; number = stored.head }

-- a keeper holds all that is kept of a state, where it tells
abbrev pub Holds : Option Kept → State → Type 0
Holds kept state = IfTold kept (λ held. stored_of state ≡ held)

-- it is a site, whose number is one that a site may begin with
pub record IsSite (state : State) : Type 0 where
  pub valid : IsValidState state
  pub number : state.number ≤ 2 ^ 62

-- it has no row at all, and its number is one that a site may begin with
pub record IsEmpty (state : State) : Type 0 where
  pub rows : state.rows ≡ []
  pub number : state.number ≤ 2 ^ 62

-- what is imported is added to a site, or to no row at all
abbrev pub IsGround : State → Type 0
IsGround state = IsSite state ⊎ IsEmpty state

-- why it is no site
abbrev pub IsNoSiteOf : State → NotASite → Type 0
IsNoSiteOf state fault = IsNoSite state.rows state.number fault

-- it has no row, and its number is too great, which is said of the cell of the head number
pub record IsEmptyPast (state : State) (fault : NotASite) : Type 0 where
  pub rows : state.rows ≡ []
  pub great : 2 ^ 62 < state.number
  pub named : fault ≡ record { cell = cell.Head; rule = rule.Range; field = field.Number }

-- why nothing is imported over a state: it has rows, which with the number are no site; or none, and the number is too great
abbrev pub IsNoGround : State → NotASite → Type 0
IsNoGround state fault = ((state.rows ≢ []) × IsNoSiteOf state fault) ⊎ IsEmptyPast state fault
