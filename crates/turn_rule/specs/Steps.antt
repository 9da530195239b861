-- What each kind of step tells its caller.
use Rattle.std.specs.Prelude.{◌≡◌, ◌≢◌, ℕ, zero, suc, ◌+◌, ◌<◌, ◌≤◌, List, [], ◌∷◌, ◌++◌, length, drop, ltb, All, Bool, true, false, ◌⊎◌, Option, Some, None, map, if◌then◌else◌}
use mathlib.Core.Option.{some}
use mathlib.Core.Option as maybe
use Rattle.atomic_table.specs.Table.{Me, rest}
use Rattle.content_state.specs.Replay.{Begins}
use Rattle.content_state.specs.declared.commit.Commit.{Commit}
use Rattle.site_house.specs.House.{IsSublist, by_pass}
use Rattle.turn_rule.specs.declared.notes.TallyNote.{TallyNote}
use Rattle.turn_rule.specs.declared.notes.HallNote.{HallNote}
use Rattle.turn_rule.specs.declared.notes.HallPart.{HallPart}
use Rattle.turn_rule.specs.declared.notes.DeskPart.{DeskPart}
use Rattle.turn_rule.specs.declared.notes.DeskNote.{DeskNote}
use Rattle.turn_rule.specs.declared.notes.PassNote.{PassNote}
use Rattle.turn_rule.specs.declared.notes.FounderNote.{FounderNote}
use Rattle.turn_rule.specs.declared.notes.Note.{Note}
use Rattle.turn_rule.specs.Logs.{waiting, since, since_in, newest_of, hall_part, desk_part, whole_of, Agree, StandsFor}
use Rattle.turn_rule.specs.Rule.{Counted, IsSum, capped}

-- ---- the notes of seats

-- the seat of a pass between two calls, that of the founder, and one that nothing stands on
abbrev pub bearing : PassNote → Note
bearing pass = record { fresh = false; hall = None; desk = None; founder = None; passes = pass ∷ [] }

abbrev pub founding : FounderNote → Note
founding founder = record { fresh = false; hall = None; desk = None; founder = Some founder; passes = [] }

abbrev pub spent : Note
spent = record { fresh = false; hall = None; desk = None; founder = None; passes = [] }

abbrev pub with_hall : Option HallPart → Note → Note
with_hall hall note = record { fresh = note.fresh; hall = hall; desk = note.desk; founder = note.founder; passes = note.passes }

abbrev pub with_desk : Option DeskPart → Note → Note
with_desk desk note = record { fresh = note.fresh; hall = note.hall; desk = desk; founder = note.founder; passes = note.passes }

abbrev pub with_passes : List PassNote → Note → Note
with_passes passes note = record { fresh = note.fresh; hall = note.hall; desk = note.desk; founder = note.founder; passes = passes }

-- ---- what a pass knows

-- the edits of a pass in a log, since the opening, are of those that it handed in, in that order
abbrev pub AreOwnIn : PassNote → List Commit → Type 0
AreOwnIn pass log = IsSublist (by_pass pass.number (drop (length pass.opened.log) log)) pass.handed

-- what a pass knows of the hall that it has out
pub record KnowsHall (hall : HallPart) (pass : PassNote) : Type 0 where
  pub base : hall.base ≡ pass.opened.loaded.base
  pub seen : Begins pass.seen hall.log
  pub whole : Begins pass.opened.log hall.log
  -- its edits since the opening, and the pending one where that is its own, are of those that it handed in, in that order
  pub own : IsSublist (by_pass pass.number (since_in pass.opened hall.log hall.pending)) pass.handed

-- what a pass knows of the desk that it has out
pub record KnowsDesk (desk : DeskPart) (pass : PassNote) : Type 0 where
  pub loaded : desk.loaded ≡ pass.opened.loaded
  pub seen : Begins pass.seen desk.log
  pub whole : Begins pass.opened.log desk.log
  pub faults : pass.faults ≤ desk.faults
  pub steady : desk.loaded.steadfast ≡ true → desk.faults ≡ pass.faults
  pub own : IsSublist (by_pass pass.number (since_in pass.opened desk.log desk.pending)) pass.handed

-- what a pass knows that has both out
pub record Knows (hall : HallNote) (pass : PassNote) : Type 0 where
  pub loaded : hall.loaded ≡ pass.opened.loaded
  pub seen : Begins pass.seen hall.log
  pub whole : Begins pass.opened.log hall.log
  pub faults : pass.faults ≤ hall.faults
  pub steady : hall.loaded.steadfast ≡ true → hall.faults ≡ pass.faults
  -- its edits since the opening, and the pending one where that is its own, are of those that it handed in, in that order
  pub own : IsSublist (by_pass pass.number (since pass.opened hall)) pass.handed

-- ---- a turn

-- a count that rose, up to the greatest u64
abbrev pub plus : ℕ → ℕ → ℕ
plus count zero = count
plus count (suc more) = capped (count + suc more)

abbrev pub raised : TallyNote → TallyNote → TallyNote
raised more tally = record {
  looks = plus tally.looks more.looks;
  found = plus tally.found more.found;
  kept = plus tally.kept more.kept;
}

abbrev pub zeros : TallyNote
zeros = record { looks = 0; found = 0; kept = 0 }

-- what a turn handed in, by the hall that it leaves: nothing, or the newest edit
abbrev pub given : Bool → HallNote → List Commit
given false hall = []
given true hall = newest_of hall.log hall.pending

-- What a turn of a pass does to the hall, and these edits come into the log. They, and the one that is pending then, are of what was
-- pending and what the turn handed in, in that order. The bins stay.
pub record Turns (more : TallyNote) (hands : Bool) (number : ℕ) (old new : HallNote) (commits : List Commit) : Type 0 where
  pub loaded : new.loaded ≡ old.loaded
  pub log : new.log ≡ old.log ++ commits
  pub faults : old.faults ≤ new.faults
  pub steady : old.loaded.steadfast ≡ true → new.faults ≡ old.faults
  pub tally : new.tally ≡ raised more old.tally
  pub bins : new.bins ≡ old.bins
  pub handed : IsSublist (commits ++ waiting new) (waiting old ++ given hands new)
  pub own : All (λ commit. commit.pass ≡ number) (given hands new)

-- a pass after a turn with the desk that leaves this hall
abbrev pub after_turn : TallyNote → Bool → HallNote → PassNote → PassNote
after_turn more hands hall pass = record {
  number = pass.number;
  opened = pass.opened;
  seen = hall.log;
  handed = pass.handed ++ given hands hall;
  faults = hall.faults;
  tally = raised more pass.tally;
  found = pass.found;
  left = pass.left;
}

-- ---- a turn of a pass that hasn't the desk, or leaves it as it is

-- The log and the pending edit stay as they were; it may count something. Where it counts nothing the bins stay, too.
pub record Counts (more : TallyNote) (old new : HallPart) : Type 0 where
  pub base : new.base ≡ old.base
  pub log : new.log ≡ old.log
  pub pending : new.pending ≡ old.pending
  pub tally : new.tally ≡ raised more old.tally
  pub still : more ≡ zeros → new.bins ≡ old.bins

-- a pass after such a turn, which found the first of these halls, and left the second
abbrev pub after_look : TallyNote → HallPart → HallPart → PassNote → PassNote
after_look more found hall pass = record {
  number = pass.number;
  opened = pass.opened;
  seen = hall.log;
  handed = pass.handed;
  faults = pass.faults;
  tally = raised more pass.tally;
  found = found;
  left = hall;
}

-- ---- a turn of a pass that has the desk

-- With the desk the hall is one whole, before and after, and nothing is counted.
pub record TurnsBoth (hands : Bool) (number : ℕ) (desk : DeskPart) (old new : HallPart) (commits : List Commit) : Type 0 where
  pub base : new.base ≡ old.base
  pub turns : Turns zeros hands number (whole_of old desk) (whole_of new desk) commits

-- The edit that the pass has handed in last, and that is pending, is forgotten.
pub record Forgets (number : ℕ) (commit : Commit) (desk : DeskPart) (old new : HallPart) : Type 0 where
  pub pending : desk.pending ≡ Some commit
  pub own : commit.pass ≡ number
  pub new_is : new ≡ record { base = old.base; log = old.log; pending = None; tally = old.tally; bins = old.bins }

-- all but the last of these
abbrev pub front : List Commit → List Commit
front [] = []
front (commit ∷ []) = []
front (commit ∷ other ∷ others) = commit ∷ front (other ∷ others)

-- a pass after that, which handed these in before
abbrev pub after_forgetting : List Commit → HallNote → PassNote → PassNote
after_forgetting handed whole pass = record {
  number = pass.number;
  opened = pass.opened;
  seen = whole.log;
  handed = handed;
  faults = whole.faults;
  tally = raised zeros pass.tally;
  found = pass.found;
  left = pass.left;
}

-- ---- the keeper has failed

-- what is said at the desk once its keeper has failed so often
abbrev pub with_faults : ℕ → DeskPart → DeskPart
with_faults faults desk = record { loaded = desk.loaded; log = desk.log; pending = desk.pending; faults = faults }

-- a pass that has learned how often the keeper has failed
abbrev pub after_fault : ℕ → DeskPart → PassNote → PassNote
after_fault faults desk pass = record {
  number = pass.number;
  opened = pass.opened;
  seen = desk.log;
  handed = pass.handed;
  faults = faults;
  tally = pass.tally;
  found = pass.found;
  left = pass.left;
}

-- ---- new passes, and passes that meet

abbrev pub new_pass : FounderNote → PassNote
new_pass founder = record {
  number = founder.made;
  opened = founder.opened;
  seen = founder.opened.log;
  handed = [];
  faults = founder.opened.faults;
  tally = zeros;
  found = hall_part founder.opened;
  left = hall_part founder.opened;
}

abbrev pub longer : List Commit → List Commit → List Commit
longer log other = if ltb (length log) (length other) then other else log

abbrev pub seeing : List Commit → PassNote → PassNote
seeing log pass = record {
  number = pass.number;
  opened = pass.opened;
  seen = log;
  handed = pass.handed;
  faults = pass.faults;
  tally = pass.tally;
  found = pass.found;
  left = pass.left;
}

-- two passes that meet have seen the longer log
abbrev pub met : List PassNote → List PassNote
met [] = []
met (pass ∷ []) = pass ∷ []
met (pass ∷ other ∷ others) = seeing (longer pass.seen other.seen) pass ∷ seeing (longer pass.seen other.seen) other ∷ others

-- what each of them had seen is a front of it, and its own edits there are of those that it handed in
abbrev pub AreMet : List PassNote → Type 0
AreMet [] = Unit {0}
AreMet (pass ∷ []) = Unit {0}
AreMet (pass ∷ other ∷ others) =
    Begins pass.seen (longer pass.seen other.seen) × Begins other.seen (longer pass.seen other.seen)
    × AreOwnIn pass (longer pass.seen other.seen) × AreOwnIn other (longer pass.seen other.seen)

-- ---- passes change their seats

abbrev pub first_of : List PassNote → List PassNote
first_of [] = []
first_of (pass ∷ passes) = pass ∷ []

abbrev pub others_of : List PassNote → List PassNote
others_of [] = []
others_of (pass ∷ passes) = passes

-- the first pass of a seat goes to a new one: what stays, and what goes
abbrev pub left_of : Note → Note
left_of note = with_passes (others_of note.passes) note

abbrev pub right_of : Note → Note
right_of note = with_passes (first_of note.passes) spent

-- the passes of another seat come to one, and stand first
abbrev pub joined : Note → Note → Note
joined note other = with_passes (other.passes ++ note.passes) note

-- ---- what the steps tell

-- the hall agrees with the desk, where the seat that has taken it out has the desk out, too
abbrev pub AgreesWith : HallPart → Option DeskPart → Type 0
AgreesWith hall None = Unit {0}
AgreesWith hall (Some desk) = Agree hall desk

module _ {S : Type 0} (noted : S → Option HallPart) (noted_desk : S → Option DeskNote) where
  -- the first step: the hall and the desk that are announced are the site's from now on, and both empty slots are out with the seat
  abbrev pub Opens : maybe.Option S → Me S Note → Me S Note → Type 0
  Opens said me new = (value : S) × (whole : HallNote) × (desk : DeskNote) × (empty : S) × (also : S) × (said ≡ some value)
      × (noted value ≡ Some (hall_part whole)) × (noted_desk value ≡ Some desk) × StandsFor desk (desk_part whole)
      × (noted empty ≡ None) × (noted_desk also ≡ None)
      × (new ≡ (
        with_hall (Some (hall_part whole)) (with_desk (Some (desk_part whole)) (founding (record { made = 0; opened = whole }))),
        (0, empty) ∷ (1, also) ∷ me.1,
      ))

  -- where the gate was 0, the hall is out with the seat, and each pass on it knows the hall; else nothing changes
  abbrev pub TakesOut : Me S Note → ℕ → Me S Note → Type 0
  TakesOut me gate new =
      (gate ≡ 0
      → (value : S) × (hall : HallPart) × (noted value ≡ Some hall) × (new ≡ (with_hall (Some hall) me.0, (0, value) ∷ me.1))
      × AgreesWith hall me.0.desk × All (KnowsHall hall) me.0.passes)
      × (gate ≢ 0 → new ≡ me)

  -- where the door was 0, the desk is out with the seat, its keeper stands for the log, and each pass on the seat knows it; else nothing
  -- changes
  abbrev pub TakesDesk : Me S Note → ℕ → Me S Note → Type 0
  TakesDesk me door new =
      (door ≡ 0
      → (value : S) × (desk : DeskNote) × (part : DeskPart) × (noted_desk value ≡ Some desk) × StandsFor desk part
      × (new ≡ (with_desk (Some part) me.0, (1, value) ∷ me.1)) × All (KnowsDesk part) me.0.passes)
      × (door ≢ 0 → new ≡ me)

  -- what is noted of the value that the seat took last
  abbrev pub noted_out : List (ℕ × S) → Option HallPart
  noted_out [] = None
  noted_out (slot ∷ slots) = noted slot.1

  abbrev pub desk_out : List (ℕ × S) → Option DeskNote
  desk_out [] = None
  desk_out (slot ∷ slots) = noted_desk slot.1

  -- what the pass counted with the hall that the seat has out is known to all from now on; the pass notes how it found the hall and how
  -- it leaves it
  abbrev pub Looks : TallyNote → Me S Note → Me S Note → Type 0
  Looks more me new = (found : HallPart) × (hall : HallPart) × (me.0.hall ≡ Some found) × (noted_out me.1 ≡ Some hall)
      × (new ≡ (with_hall (Some hall) (with_passes (map (after_look more found hall) me.0.passes) me.0), me.1))
      × All (KnowsHall hall) (map (after_look more found hall) me.0.passes)

  -- what the pass did with the hall and the desk that the seat has out is known to all from now on
  abbrev pub Follows : Bool → Me S Note → Me S Note → Type 0
  Follows hands me new = (hall : HallPart) × (desk : DeskPart) × (noted_out me.1 ≡ Some hall) × (me.0.desk ≡ Some desk)
      × (new ≡ (
        with_hall (Some hall) (
            with_desk (Some (desk_part (whole_of hall desk))) (with_passes (map (after_turn zeros hands (whole_of hall desk)) me.0.passes) me.0)
            ),
        me.1,
      ))
      × All (Knows (whole_of hall desk)) (map (after_turn zeros hands (whole_of hall desk)) me.0.passes)

  -- the same, where the edit that was handed in last is forgotten
  abbrev pub FollowsForgetting : Me S Note → Me S Note → Type 0
  FollowsForgetting me new = (hall : HallPart) × (desk : DeskPart) × (noted_out me.1 ≡ Some hall) × (me.0.desk ≡ Some desk)
      × (new ≡ (
        with_hall (Some hall) (
            with_desk (Some (desk_part (whole_of hall desk)))
            (with_passes (map (λ pass. after_forgetting (front pass.handed) (whole_of hall desk) pass) me.0.passes) me.0)
            ),
        me.1,
      ))
      × All (Knows (whole_of hall desk)) (map (λ pass. after_forgetting (front pass.handed) (whole_of hall desk) pass) me.0.passes)

  -- how often the keeper of the desk that the seat has out has failed is known to all from now on
  abbrev pub TellsFaults : Me S Note → Me S Note → Type 0
  TellsFaults me new = (desk : DeskNote) × (part : DeskPart) × (desk_out me.1 ≡ Some desk) × (me.0.desk ≡ Some part)
      × (new ≡ (with_desk (Some (with_faults desk.faults part)) (with_passes (map (after_fault desk.faults part) me.0.passes) me.0), me.1))
      × All (KnowsDesk (with_faults desk.faults part)) (map (after_fault desk.faults part) me.0.passes)

module _ {S : Type 0} where
  -- a seat that waits says what it said
  abbrev pub Marks : Me S Note → Me S Note → Type 0
  Marks me new = new ≡ me

  -- the hall lies in its slot again
  abbrev pub GivesBack : Me S Note → Me S Note → Type 0
  GivesBack me new = new ≡ (with_hall None me.0, rest me.1)

  -- the desk lies in its slot again
  abbrev pub GivesDeskBack : Me S Note → Me S Note → Type 0
  GivesDeskBack me new = new ≡ (with_desk None me.0, rest me.1)

  -- a new pass stands on the founder's seat, with the next number
  abbrev pub Draws : Me S Note → Me S Note → Type 0
  Draws me new = (founder : FounderNote) × (me.0.founder ≡ Some founder)
      × (new ≡ (
        record {
          fresh = false;
          hall = None;
          desk = None;
          founder = Some (record { made = founder.made + 1; opened = founder.opened });
          passes = new_pass founder ∷ me.0.passes;
        },
        me.1,
      ))

  -- the first two passes of a seat have met
  abbrev pub Meets : Me S Note → Me S Note → Type 0
  Meets me new = (new ≡ (with_passes (met me.0.passes) me.0, me.1)) × AreMet me.0.passes

-- ---- the end

-- one of these passes has this number
abbrev pub HasNumber : ℕ → List PassNote → Type 0
HasNumber number [] = ⊥
HasNumber number (pass ∷ passes) = (pass.number ≡ number) ⊎ HasNumber number passes

-- all that were made are among these
abbrev pub AreAll : ℕ → List PassNote → Type 0
AreAll made passes = (number : ℕ) → number < made → HasNumber number passes

-- The hall at the end: with all passes that were made, what it counted is the sum.
pub record Closes (founder : FounderNote) (hall : HallNote) (passes : List PassNote) : Type 0 where
  pub loaded : hall.loaded ≡ founder.opened.loaded
  pub whole : Begins founder.opened.log hall.log
  pub know : All (Knows hall) passes
  pub sums : AreAll founder.made passes → (counted : Counted) → IsSum counted founder.opened hall passes
