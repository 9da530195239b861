-- What is sent first of a late page, and what is sent behind it.
use Rattle.std.specs.Prelude.{ℕ, List, ◌++◌, ◌≡◌, Option, Bool, take, replicate}
use Rattle.content_state.specs.declared.ask.Ask.{Ask}
use Rattle.content_state.specs.State.{State}
use Rattle.content_state.specs.Viewer.{viewer_of}
use Rattle.http_heads.specs.Reply.{head_text}
use Rattle.late_pages.specs.Late.{IsFirst, IsSent, parts_sent}
use Rattle.site_house.specs.Bins.{IsSeenIn}
use Rattle.site_house.specs.History.{OnLog, newest, state_of}
use Rattle.site_house.specs.House.{HouseView, history_of}
use Rattle.site_io.specs.declared.device.Point.{Point}
use Rattle.site_io.specs.declared.device.Point.TheVariants.{BeforePart}
use Rattle.site_io.specs.Told.{after, Rose}
use Rattle.site_late.specs.Heads.{late_head, media_of}
use Rattle.site_late.specs.Making.{MakesBegun}
use Rattle.site_late.specs.Sending.{NeededFirst, Until, and_points, is_short, places_sent, reader_of}
use Rattle.site_late.specs.declared.late.Ready.{Ready}
use Rattle.site_late.specs.declared.late.Sent.{Sent}
use Rattle.site_late.specs.declared.late.Sent.TheVariants as sent

-- what is sent first was made on a state, for the viewer whom the request's cookie names there, and leaves its places open
pub record IsOpen (state : State) (ask : Ask) (moment : ℕ) (r : Ready) : Type 0 where
  pub viewer : r.viewer ≡ viewer_of state.rows ask.cookie moment
  pub first : IsFirst state.rows ask moment r.late.status r.late.parts r.late.holes.items

-- the house has seen the state; the head bears its number; and what was needed
pub record IsReady (state : State) (old new : HouseView) (ask : Ask) (moment : ℕ) (closing : Bool) (r : Ready) : Type 0 where
  pub number : ℕ
  pub on : OnLog (history_of new) (newest (history_of old)) number
  pub state_is : state ≡ state_of (history_of new) number
  pub seen : IsSeenIn new state
  pub opened : IsOpen state ask moment r
  pub head_is : r.head.items ≡ head_text (late_head (media_of ask.path) r.late.status state.number closing)
  pub needed : NeededFirst state ask moment r.late.built old new

-- What makes a page of what was sent first was sent behind it, so many bytes of it, and so many of its parts begun; where none was,
-- the house was asked for nothing.
pub record SendsRest (how : Sent) (old new : HouseView) (state : State) (ask : Ask) (moment : ℕ) (r : Ready) (points points-after : Option (List Point)) (written written-after : Option (List ℕ)) : Type 0 where
  pub rest : List ℕ
  pub page : IsSent state.rows ask moment r.late.status (r.late.parts ++ rest)
  pub parts : ℕ
  pub bytes : ℕ
  pub told : points-after ≡ and_points points (replicate parts BeforePart)
  pub wrote : written-after ≡ after written (take bytes rest)
  pub until : Until how (parts_sent page) parts rest bytes
  pub still : parts ≡ 0 → new ≡ old
  pub made : MakesBegun (is_short how) (reader_of state ask moment) (places_sent page) parts old new

-- what was written is counted: a fault exactly where the count rose
abbrev pub CountsSent : Sent → ℕ → ℕ → Type 0
CountsSent sent.NotBegun old new = new ≡ old
CountsSent sent.Written old new = new ≡ old
CountsSent sent.WriteFault old new = Rose old new
CountsSent sent.OutOfMemory old new = new ≡ old
