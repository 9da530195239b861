-- The rule in plain words, without the account: what is true of the words, the slots and the seats between any two steps.
use Rattle.std.specs.Prelude.{◌≡◌, ◌≢◌, ℕ, ◌<◌, ◌≤◌, length, slice_index, All, Option, Some}
use mathlib.Core.Option.{some}
use lib.ListN.{get_elem?}
use Rattle.atomic_table.specs.Table.{State}
use Rattle.content_state.specs.Replay.{Begins}
use Rattle.site_house.specs.House.{IsSublist, by_pass}
use Rattle.turn_rule.specs.declared.notes.HallNote.{HallNote}
use Rattle.turn_rule.specs.declared.notes.HallPart.{HallPart}
use Rattle.turn_rule.specs.declared.notes.DeskPart.{DeskPart}
use Rattle.turn_rule.specs.declared.notes.DeskNote.{DeskNote}
use Rattle.turn_rule.specs.declared.notes.PassNote.{PassNote}
use Rattle.turn_rule.specs.declared.notes.FounderNote.{FounderNote}
use Rattle.turn_rule.specs.declared.notes.Note.{Note}
use Rattle.turn_rule.specs.Logs.{since, hall_part, desk_part, StandsFor}
use Rattle.turn_rule.specs.Rule.{Stands, HasOut}

-- a seat has this note
abbrev pub Sits : {S : Type 0} → State S Note → ℕ → Note → Type 0
Sits state seat note = get_elem? state.views seat ≡ some note

-- a pass stands on a seat
abbrev pub Bears : {S : Type 0} → State S Note → ℕ → PassNote → Type 0
Bears state seat pass = Stands state.views seat pass

-- this is the hall, in its slot or out with a seat
pub data IsHallAt {S : Type 0} (noted : S → Option HallPart) (state : State S Note) (hall : HallPart) : Type 0 where
  home : (value : S) → slice_index state.words 1 ≡ 0 → get_elem? state.homes 0 ≡ some (some value) → noted value ≡ Some hall → IsHallAt noted state hall
  out : (seat : ℕ) (note : Note) → Sits state seat note → note.hall ≡ Some hall → IsHallAt noted state hall

module _ {S : Type 0} (noted : S → Option HallPart) (noted_desk : S → Option DeskNote) (state : State S Note) where
  -- Where the hall is, whether it lies in its slot or is out with a seat.
  pub record IsTheHall (hall : HallNote) : Type 0 where
    -- the first word is the length of its log
    pub word : slice_index state.words 0 ≡ length hall.log
    -- where the second is 0, it lies in its slot
    pub home : slice_index state.words 1 ≡ 0 → (value : S) × (get_elem? state.homes 0 ≡ some (some value)) × (noted value ≡ Some (hall_part hall))
    -- where the second is not 0, a seat has it out
    pub away : slice_index state.words 1 ≢ 0 → (seat : ℕ) × HasOut (λ note. note.hall) state.views seat (hall_part hall)
    -- where a seat has it out, the second is not 0, and no other seat has it
    pub out : (seat : ℕ) (note : Note) (held : HallPart) → Sits state seat note → note.hall ≡ Some held → (held ≡ hall_part hall) × (slice_index state.words 1 ≢ 0)
    pub alone : (seat other : ℕ) (note more : Note) (held also : HallPart) → Sits state seat note → Sits state other more → note.hall ≡ Some held → more.hall ≡ Some also → seat ≡ other

  -- Where the desk is. Its log and its pending edit are the hall's.
  pub record IsTheDesk (hall : HallNote) : Type 0 where
    -- where the third word is 0, it lies in its slot, and its keeper stands for that log
    pub home : slice_index state.words 2 ≡ 0
        → (value : S) × (desk : DeskNote) × (get_elem? state.homes 1 ≡ some (some value)) × (noted_desk value ≡ Some desk) × StandsFor desk (desk_part hall)
    -- where the third is not 0, a seat has it out
    pub away : slice_index state.words 2 ≢ 0 → (seat : ℕ) × HasOut (λ note. note.desk) state.views seat (desk_part hall)
    -- where a seat has it out, the third is not 0, and no other seat has it
    pub out : (seat : ℕ) (note : Note) (held : DeskPart) → Sits state seat note → note.desk ≡ Some held → (held ≡ desk_part hall) × (slice_index state.words 2 ≢ 0)
    pub alone : (seat other : ℕ) (note more : Note) (held also : DeskPart) → Sits state seat note → Sits state other more → note.desk ≡ Some held → more.desk ≡ Some also → seat ≡ other

  -- What each pass has seen and handed in, on whatever seat it stands.
  pub record ArePasses (hall : HallNote) : Type 0 where
    -- what was seen is a front of the log, and has all that the site was opened with
    pub seen : (seat : ℕ) (pass : PassNote) → Bears state seat pass → Begins pass.opened.log pass.seen × Begins pass.seen hall.log
    -- no fault count falls
    pub faults : (seat : ℕ) (pass : PassNote) → Bears state seat pass → (pass.opened.faults ≤ pass.faults) × (pass.faults ≤ hall.faults)
    -- each number is given once
    pub once : (seat other : ℕ) (pass also : PassNote) → Bears state seat pass → Bears state other also → pass.number ≡ also.number → (seat ≡ other) × (pass ≡ also)
    -- its edits since the opening, and the pending one, are of those that it handed in, in that order
    pub handed : (seat : ℕ) (pass : PassNote) → Bears state seat pass → IsSublist (by_pass pass.number (since pass.opened hall)) pass.handed

  -- What the founder knows.
  pub record IsFounder (hall : HallNote) (founder : FounderNote) : Type 0 where
    -- what was loaded is what the site was opened with, and the log begins with that one's
    pub loaded : hall.loaded ≡ founder.opened.loaded
    pub whole : Begins founder.opened.log hall.log
    -- each edit since the opening, and the pending one, bears a number that was given
    pub numbered : All (λ commit. commit.pass < founder.made) (since founder.opened hall)
    -- a pass stands on some seat for each number that was given, and for no other
    pub there : (number : ℕ) → number < founder.made → (seat : ℕ) × (pass : PassNote) × Bears state seat pass × (pass.number ≡ number)
    pub made : (seat : ℕ) (pass : PassNote) → Bears state seat pass → pass.number < founder.made

  pub record InPlainWords (hall : HallNote) : Type 0 where
    pub the_hall : IsTheHall hall
    pub the_desk : IsTheDesk hall
    pub passes : ArePasses hall
    pub founder : (seat : ℕ) (note : Note) (founder : FounderNote) → Sits state seat note → note.founder ≡ Some founder → IsFounder hall founder
