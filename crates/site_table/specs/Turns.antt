-- A turn: a seat takes the hall out, one call of the hall is made, and the seat gives it back. And what a seat has that is at its desk.
use Rattle.std.specs.Prelude.{◌≡◌, ◌≤◌, ℕ, List, [], ◌∷◌, ◌++◌, length, Bool, true, false, Some, None, Result, Ok, Err}
use Rattle.std.specs.declared.alloc.AllocError.{AllocError}
use Rattle.atomic_table.specs.Table.{rest}
use Rattle.cache_entries.specs.declared.kept.Found.{Found}
use Rattle.cache_entries.specs.declared.kept.Found.TheVariants as found
use Rattle.content_state.specs.declared.commit.Commit.{Commit}
use Rattle.turn_rule.specs.declared.notes.TallyNote.{TallyNote}
use Rattle.turn_rule.specs.declared.notes.HallPart.{HallPart}
use Rattle.turn_rule.specs.declared.notes.DeskPart.{DeskPart}
use Rattle.turn_rule.specs.declared.notes.PassNote.{PassNote}
use Rattle.turn_rule.specs.declared.notes.Note.{Note}
use Rattle.turn_rule.specs.Logs.{StandsFor, desk_part, whole_of}
use Rattle.turn_rule.specs.Steps.{zeros, bearing, with_hall, with_desk, with_faults, after_turn, after_forgetting, front, KnowsDesk, Counts, TurnsBoth, Forgets}
use Rattle.site_hall.specs.Sides.{HallSide, DeskSide}
use Rattle.site_table.specs.Views.{Lodging, Place, nothing, part_of, desk_note, pass_at, part_at}

-- ---- what a turn counts

-- a look that found nothing, one that found something, and something kept
abbrev pub one_look : TallyNote
one_look = record { looks = 1; found = 0; kept = 0 }

abbrev pub one_found : TallyNote
one_found = record { looks = 1; found = 1; kept = 0 }

abbrev pub one_kept : TallyNote
one_kept = record { looks = 0; found = 0; kept = 1 }

-- what a look counts, by the answer; where memory is wanting nothing is counted
abbrev pub counts_of_found : Found → TallyNote
counts_of_found (found.Entry e) = one_found
counts_of_found (found.Redirect contexts) = one_found
counts_of_found found.Absent = one_look

abbrev pub counts_of_look : Result Found AllocError → TallyNote
counts_of_look (Ok found) = counts_of_found found
counts_of_look (Err fault) = zeros

-- what is counted where something was to be kept, by the answer
abbrev pub counts_of_keep : Result (Unit {0}) AllocError → TallyNote
counts_of_keep (Ok done) = one_kept
counts_of_keep (Err fault) = zeros

-- ---- the hall is out

-- The seat of a pass has the hall out, as it was when it came out, and this holds of it.
abbrev pub HasOut : Place → (HallPart → Type 0) → Type 0
HasOut me P = (old : HallPart) × (me ≡ (with_hall (Some old) (with_desk me.0.desk (bearing (pass_at me))), (0, nothing) ∷ rest me.1)) × P old

-- The seat of a pass has both the hall and the desk out, the hall as it was when it came out, and this holds of the hall.
abbrev pub HasBothOut : Place → (HallPart → Type 0) → Type 0
HasBothOut me P = (old : HallPart) × (me ≡ (with_hall (Some old) (with_desk (Some (part_at me)) (bearing (pass_at me))), (0, nothing) ∷ rest me.1)) × P old

-- The turn leaves log and pending edit as they were in this hall, and counts this.
abbrev pub HasCounted : TallyNote → Place → HallSide → Type 0
HasCounted more me hall = HasOut me (λ old. Counts more old (part_of hall))

-- The turn of a pass that has the desk leaves this hall, whose log grew by so many edits, and handed an edit in or nothing.
abbrev pub TurnsTo : Bool → HallSide → ℕ → PassNote → DeskPart → HallPart → Type 0
TurnsTo hands hall grown pass part old =
    (commits : List Commit) × TurnsBoth hands pass.number part old (part_of hall) commits × (grown ≡ length commits)

abbrev pub HasTurned : Bool → Place → HallSide → ℕ → Type 0
HasTurned hands me hall grown = HasBothOut me (TurnsTo hands hall grown (pass_at me) (part_at me))

-- The turn leaves this hall, in which the pending edit is forgotten, which the pass handed in last.
abbrev pub ForgetsTo : HallSide → PassNote → DeskPart → HallPart → Type 0
ForgetsTo hall pass part old =
    (handed : List Commit) × (commit : Commit) × (pass.handed ≡ handed ++ commit ∷ []) × Forgets pass.number commit part old (part_of hall)

abbrev pub HasForgotten : Place → HallSide → Type 0
HasForgotten me hall = HasBothOut me (ForgetsTo hall (pass_at me) (part_at me))

-- the hall lies in the seat's slot again, and the seat says so of it
pub record HasBack (me : Place) : Type 0 where
  pub hall : HallSide
  pub note : Note
  pub others : List (ℕ × Lodging)
  pub me_is : me ≡ (with_hall (Some (part_of hall)) note, (0, (Some hall, None)) ∷ others)
  pub old : note.fresh ≡ false

-- what the seat of a pass that has the desk is, once a turn is over that leaves this hall
abbrev pub turned_place : Bool → HallPart → Place → Place
turned_place hands hall me =
    let whole = whole_of hall (part_at me) in
    (with_desk (Some (desk_part whole)) (bearing (after_turn zeros hands whole (pass_at me))), rest me.1)

-- the same, once the edit is forgotten that the pass handed in last
abbrev pub forgotten_place : HallPart → Place → Place
forgotten_place hall me =
    let whole = whole_of hall (part_at me) in
    (with_desk (Some (desk_part whole)) (bearing (after_forgetting (front (pass_at me).handed) whole (pass_at me))), rest me.1)

-- ---- the desk is out

-- A pass is at its desk: the seat has the desk out, and nothing else; what the keeper tells now stands for the log that the seat knows;
-- and its count of faults is that which the seat knows, or it rose since.
pub record IsAtDesk (me : Place) (pass : PassNote) (part : DeskPart) (desk : DeskSide) : Type 0 where
  pub me_is : me ≡ (with_desk (Some part) (bearing pass), (1, nothing) ∷ [])
  pub stands : StandsFor (desk_note desk) (with_faults desk.faults part)
  pub rise : part.faults ≤ desk.faults
  pub calm : part.loaded.steadfast ≡ true → desk.faults ≡ part.faults
  pub knows : KnowsDesk part pass

-- the desk lies in the seat's slot again, and its keeper stands for the log of which the seat says so
pub record HasDeskBack (me : Place) : Type 0 where
  pub desk : DeskSide
  pub part : DeskPart
  pub note : Note
  pub others : List (ℕ × Lodging)
  pub me_is : me ≡ (with_desk (Some part) note, (1, (None, Some desk)) ∷ others)
  pub old : note.fresh ≡ false
  pub stands : StandsFor (desk_note desk) part

abbrev pub AtDesk : Place → DeskSide → Type 0
AtDesk me desk = IsAtDesk me (pass_at me) (part_at me) desk
