-- Pages whose parts are sent late: what is written of them, and what is told meanwhile.
-- https://www.drupal.org/docs/8/core/modules/big-pipe/overview
use Rattle.std.specs.Prelude.{ℕ, List, [], ◌∷◌, ◌++◌, ◌≡◌, ◌≤◌, ◌<◌, ◌⊎◌, Bool, true, false, Option, Some, None, length, take, min, replicate}
use Rattle.std.proofs.Common.{inl, inr}
use Rattle.content_rows.specs.declared.cell.Cell.{Cell}
use Rattle.content_rows.specs.declared.row.Row.{Row}
use Rattle.content_state.specs.declared.ask.Ask.{Ask}
use Rattle.content_state.specs.declared.element.Hole.{Hole}
use Rattle.content_state.specs.State.{State}
use Rattle.content_state.specs.Viewer.{viewer_of}
use Rattle.element_entries.specs.Keys.{visit}
use Rattle.element_entries.specs.Readers.{Reader}
use Rattle.http_heads.specs.Reply.{reply_text}
use Rattle.kept_pages.specs.Held.{Shelves, IsTold, GoesTo}
use Rattle.kept_pages.specs.Went.{Went, number_built}
use Rattle.late_pages.specs.Late.{IsSent, late_places, parts_sent}
use Rattle.late_pages.specs.Needed.{OfFirst}
use Rattle.site_house.specs.House.{HouseView, Moves, history_of}
use Rattle.site_house.specs.History.{OnLog, newest, state_of}
use Rattle.site_io.specs.declared.device.Point.{Point}
use Rattle.site_io.specs.declared.device.Point.TheVariants.{AfterSnapshot, BeforeReply, BeforePart}
use Rattle.site_io.specs.Told.{after}
use Rattle.site_late.specs.Heads.{late_head, media_of}
use Rattle.site_late.specs.Making.{MakesBegun}
use Rattle.site_late.specs.declared.late.Sent.{Sent}
use Rattle.site_late.specs.declared.late.Sent.TheVariants as sent

-- the points that are told once these are
abbrev pub and_points : Option (List Point) → List Point → Option (List Point)
and_points None more = None
and_points (Some told) more = Some (told ++ more)

-- which points were told until memory was wanting: none, or that of the snapshot
abbrev pub ToldOnTheWay : Option (List Point) → Option (List Point) → Type 0
ToldOnTheWay points points-after =
    (points-after ≡ and_points points []) ⊎ (points-after ≡ and_points points (AfterSnapshot ∷ []))

-- the points that are told of a late reply, for which so many elements were built first, once so many of its parts were begun
abbrev pub late_points : (built parts : ℕ) → List Point
late_points built parts = AfterSnapshot ∷ BeforeReply built ∷ replicate parts BeforePart

-- the places of the parts that are sent late, in their order
abbrev pub places_sent : {rows : List (Cell × Row)} {ask : Ask} {moment status : ℕ} {text : List ℕ} → IsSent rows ask moment status text → List Hole
places_sent (inl whole) = []
places_sent (inr late) = late_places late.shown

-- The late page of what was asked on a state, at a moment, under its head, of so many parts, which stand in these places: all of it is
-- of this one state.
pub record IsLateReply (state : State) (ask : Ask) (moment : ℕ) (closing : Bool) (count : ℕ) (places : List Hole) (text : List ℕ) : Type 0 where
  pub status : ℕ
  pub body : List ℕ
  pub page : IsSent state.rows ask moment status body
  pub count_is : count ≡ parts_sent page
  pub places_are : places ≡ places_sent page
  pub text_is : text ≡ reply_text (late_head (media_of ask.path) status state.number closing) body

-- how far it was written: all of it, with all parts, or a front of it, where writing failed, or memory was wanting for a part
abbrev pub Until : Sent → (count parts : ℕ) → (text : List ℕ) → (bytes : ℕ) → Type 0
Until sent.NotBegun count parts text bytes = ⊥
Until sent.Written count parts text bytes = (parts ≡ count) × (bytes ≡ length text)
Until sent.WriteFault count parts text bytes = (parts ≤ count) × (bytes ≤ length text)
Until sent.OutOfMemory count parts text bytes = (parts ≤ count) × (bytes ≤ length text)

-- where memory was wanting for a part, something was written
abbrev pub SaysSome : Sent → ℕ → Type 0
SaysSome sent.NotBegun bytes = Unit {0}
SaysSome sent.Written bytes = Unit {0}
SaysSome sent.WriteFault bytes = Unit {0}
SaysSome sent.OutOfMemory bytes = 0 < bytes

-- whether memory was wanting for the part that was begun last
abbrev pub is_short : Sent → Bool
is_short sent.NotBegun = false
is_short sent.Written = false
is_short sent.WriteFault = false
is_short sent.OutOfMemory = true

-- for whom the page of what was asked is, on a state, at a moment
abbrev pub reader_of : State → Ask → ℕ → Reader
reader_of state ask moment = record { state = state; viewer = viewer_of state.rows ask.cookie moment; ask = ask; moment = moment }

-- what was needed for what is sent first, how many elements were built for it, up to the greatest u64, and what became of what is
-- kept
pub record NeededFirst (state : State) (ask : Ask) (moment built : ℕ) (old new : HouseView) : Type 0 where
  pub went : Went
  pub needed : OfFirst (visit (reader_of state ask moment)) went
  pub counted : built ≡ min (number_built went) 18446744073709551615
  pub goes : (s : Shelves) → IsTold old s → GoesTo (reader_of state ask moment) s went new

-- what stands around a late reply: the house, the points that were told, and the bytes that were written
pub record Around : Type 0 where
  pub house : HouseView
  pub points : Option (List Point)
  pub written : Option (List ℕ)

-- A late reply was begun, on one state, whose number the house has seen and which isn't below what it had seen before; of its text so
-- many bytes were written, and so many of its parts begun. Of what is kept each part took what was found, and added what was built.
pub record Begins (how : Sent) (old new : Around) (ask : Ask) (moment : ℕ) (closing : Bool) : Type 0 where
  pub number : ℕ
  pub on : OnLog (history_of new.house) (newest (history_of old.house)) number
  pub count : ℕ
  pub places : List Hole
  pub text : List ℕ
  pub reply : IsLateReply (state_of (history_of new.house) number) ask moment closing count places text
  pub built : ℕ
  pub middle : HouseView
  pub first : NeededFirst (state_of (history_of new.house) number) ask moment built old.house middle
  pub before : Moves old.house middle
  pub behind : Moves middle new.house
  pub parts : ℕ
  pub bytes : ℕ
  pub still : parts ≡ 0 → new.house ≡ middle
  pub made : MakesBegun (is_short how) (reader_of (state_of (history_of new.house) number) ask moment) places parts middle new.house
  pub points : new.points ≡ and_points old.points (late_points built parts)
  pub written : new.written ≡ after old.written (take bytes text)
  pub until : Until how count parts text bytes
  pub some : SaysSome how bytes

-- memory was wanting for what is sent first: nothing was written
pub record NotBegun (old new : Around) : Type 0 where
  pub points : ToldOnTheWay old.points new.points
  pub written : new.written ≡ old.written

-- what became of a late reply
abbrev pub Sends : Sent → Around → Around → Ask → ℕ → Bool → Type 0
Sends sent.NotBegun old new ask moment closing = NotBegun old new
Sends sent.Written old new ask moment closing = Begins sent.Written old new ask moment closing
Sends sent.WriteFault old new ask moment closing = Begins sent.WriteFault old new ask moment closing
Sends sent.OutOfMemory old new ask moment closing = Begins sent.OutOfMemory old new ask moment closing
