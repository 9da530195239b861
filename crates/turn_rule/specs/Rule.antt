-- The rule between any two steps: a fact about one account of the site, which exists in proofs alone, and about what each seat
-- says of it.
use Rattle.std.specs.Prelude.{◌≡◌, ◌≢◌, ℕ, ◌+◌, ◌<◌, ◌≤◌, min, List, [], ◌∷◌, ◌++◌, length, All, true, false, ◌⊎◌, Option, Some, None}
use Rattle.std.specs.List.{sum_by}
use mathlib.Core.Option.{some}
use mathlib.Core.Option as maybe
use lib.ListN.{get_elem?}
use Rattle.atomic_table.specs.Table.{State}
use Rattle.content_state.specs.Replay.{Begins}
use Rattle.content_state.specs.declared.commit.Commit.{Commit}
use Rattle.site_house.specs.House.{IsSublist, by_pass}
use Rattle.turn_rule.specs.declared.notes.TallyNote.{TallyNote}
use Rattle.turn_rule.specs.declared.notes.HallNote.{HallNote}
use Rattle.turn_rule.specs.declared.notes.HallPart.{HallPart}
use Rattle.turn_rule.specs.declared.notes.DeskPart.{DeskPart}
use Rattle.turn_rule.specs.declared.notes.DeskNote.{DeskNote}
use Rattle.turn_rule.specs.declared.notes.PassNote.{PassNote}
use Rattle.turn_rule.specs.declared.notes.FounderNote.{FounderNote}
use Rattle.turn_rule.specs.declared.notes.Note.{Note}
use Rattle.turn_rule.specs.Logs.{waiting, hall_part, desk_part, StandsFor}

-- ---- the account

-- the books: the hall that the site was opened with, the hall now, the edits since the opening, how many passes were made, and
-- each of them at its number
pub record Books : Type 0 where
  pub opened : HallNote
  pub hall : HallNote
  pub past : List Commit
  pub made : ℕ
  pub passes : List PassNote

-- the account: the books, and which seats have the hall, the desk, the founder and each pass
pub record Account : Type 0 where
  pub books : Books
  pub owner : ℕ
  pub clerk : ℕ
  pub head : ℕ
  pub holder : ℕ → ℕ

-- ---- tallies

-- what a tally counts
pub data Counted : Type 0 where
  looks : Counted
  found : Counted
  kept : Counted

abbrev pub count_of : Counted → TallyNote → ℕ
count_of looks tally = tally.looks
count_of found tally = tally.found
count_of kept tally = tally.kept

-- a count stays at the greatest u64
abbrev pub capped : ℕ → ℕ
capped count = min count 18446744073709551615

-- what the hall counted is what it was opened with, and what the passes counted
abbrev pub IsSum : Counted → HallNote → HallNote → List PassNote → Type 0
IsSum counted opened hall passes =
    count_of counted hall.tally ≡ capped (count_of counted opened.tally + sum_by (λ pass. count_of counted pass.tally) passes)

-- ---- what holds of the books

-- What is said of the pass of a number: it has seen a front of the log that has all that the site was opened with; and its edits
-- since the opening, with the pending one, are of those that it handed in, in that order.
pub record IsPass (books : Books) (number : ℕ) (pass : PassNote) : Type 0 where
  pub number_is : pass.number ≡ number
  pub opened : pass.opened ≡ books.opened
  pub seen : Begins pass.seen books.hall.log
  pub whole : Begins books.opened.log pass.seen
  pub faults_from : books.opened.faults ≤ pass.faults
  pub faults_to : pass.faults ≤ books.hall.faults
  pub handed : IsSublist (by_pass number (books.past ++ waiting books.hall)) pass.handed

pub record AreSound (books : Books) : Type 0 where
  pub loaded : books.hall.loaded ≡ books.opened.loaded
  pub log : books.hall.log ≡ books.opened.log ++ books.past
  pub faults : books.opened.faults ≤ books.hall.faults
  pub steady : books.opened.loaded.steadfast ≡ true → books.hall.faults ≡ books.opened.faults
  pub count : length books.passes ≡ books.made
  pub numbered : All (λ commit. commit.pass < books.made) (books.past ++ waiting books.hall)
  pub sums : (counted : Counted) → IsSum counted books.opened books.hall books.passes
  pub each : (number : ℕ) (pass : PassNote) → get_elem? books.passes number ≡ some pass → IsPass books number pass

-- ---- what the seats say

-- no pass of these has this number
abbrev pub AreOthers : ℕ → List PassNote → Type 0
AreOthers number [] = Unit {0}
AreOthers number (pass ∷ passes) = (pass.number ≢ number) × AreOthers number passes

-- a seat has these passes, of different numbers
abbrev pub Claims : List PassNote → (ℕ → ℕ) → ℕ → List PassNote → Type 0
Claims all holder seat [] = Unit {0}
Claims all holder seat (pass ∷ passes) =
    (get_elem? all pass.number ≡ some pass) × (holder pass.number ≡ seat) × AreOthers pass.number passes × Claims all holder seat passes

abbrev pub IsAmong : PassNote → List PassNote → Type 0
IsAmong pass [] = ⊥
IsAmong pass (other ∷ others) = (pass ≡ other) ⊎ IsAmong pass others

-- a pass stands on a seat
abbrev pub Stands : List Note → ℕ → PassNote → Type 0
Stands notes seat pass = (note : Note) × (get_elem? notes seat ≡ some note) × IsAmong pass note.passes

-- what the founder knows
abbrev pub founder_in : Books → FounderNote
founder_in books = record { made = books.made; opened = books.opened }

-- What a seat says agrees with the account. The gate of the hall is 0 where the hall lies in its slot, and the door, which is the gate
-- of the desk, where the desk does.
pub record Fits (account : Account) (gate door seat : ℕ) (note : Note) : Type 0 where
  pub old : note.fresh ≡ false
  pub hall : (hall : HallPart) → note.hall ≡ Some hall → (seat ≡ account.owner) × (hall ≡ hall_part account.books.hall) × (gate ≢ 0)
  pub desk : (desk : DeskPart) → note.desk ≡ Some desk → (seat ≡ account.clerk) × (desk ≡ desk_part account.books.hall) × (door ≢ 0)
  pub founder : (founder : FounderNote) → note.founder ≡ Some founder → (seat ≡ account.head) × (founder ≡ founder_in account.books)
  pub passes : Claims account.books.passes account.holder seat note.passes

-- a seat has this part out
abbrev pub HasOut : {P : Type 0} → (Note → Option P) → List Note → ℕ → P → Type 0
HasOut part notes seat held = (note : Note) × (get_elem? notes seat ≡ some note) × (part note ≡ Some held)

-- the first seat, before the site is opened
abbrev pub unopened : Note
unopened = record { fresh = true; hall = None; desk = None; founder = None; passes = [] }

-- ---- the rule, by what is noted of the values in the slots

module _ {S : Type 0} (noted : S → Option HallPart) (noted_desk : S → Option DeskNote) where
  -- the hall lies in the first slot
  abbrev pub HasHall : List (maybe.Option S) → HallNote → Type 0
  HasHall homes whole = (value : S) × (get_elem? homes 0 ≡ some (some value)) × (noted value ≡ Some (hall_part whole))

  -- the desk lies in the second slot, and its keeper stands for the log
  abbrev pub HasDesk : List (maybe.Option S) → HallNote → Type 0
  HasDesk homes whole =
      (value : S) × (desk : DeskNote) × (get_elem? homes 1 ≡ some (some value)) × (noted_desk value ≡ Some desk) × StandsFor desk (desk_part whole)

  -- the site is open: the first word is the length of the log, the second is the gate, and the third the door
  pub record IsOpen (state : State S Note) (account : Account) (gate door : ℕ) : Type 0 where
    pub words : state.words ≡ length account.books.hall.log ∷ gate ∷ door ∷ []
    pub home : gate ≡ 0 → HasHall state.homes account.books.hall
    pub away : gate ≢ 0 → HasOut (λ note. note.hall) state.views account.owner (hall_part account.books.hall)
    pub desk : door ≡ 0 → HasDesk state.homes account.books.hall
    pub desk_away : door ≢ 0 → HasOut (λ note. note.desk) state.views account.clerk (desk_part account.books.hall)
    pub sound : AreSound account.books
    pub fits : (seat : ℕ) (note : Note) → get_elem? state.views seat ≡ some note → Fits account gate door seat note
    pub placed : (number : ℕ) (pass : PassNote) → get_elem? account.books.passes number ≡ some pass → Stands state.views (account.holder number) pass

  -- the site is not opened yet
  pub record IsFresh (state : State S Note) : Type 0 where
    pub words : state.words ≡ 0 ∷ 1 ∷ 1 ∷ []
    pub home : (value : S) × (other : S) × (state.homes ≡ some value ∷ some other ∷ []) × (noted value ≡ None) × (noted_desk other ≡ None)
    pub views : state.views ≡ unopened ∷ []

  -- the site is open, by some account
  pub record Opened (state : State S Note) : Type 0 where
    pub account : Account
    pub gate : ℕ
    pub door : ℕ
    pub is_open : IsOpen state account gate door

  abbrev pub KeepsRule : State S Note → Type 0
  KeepsRule state = IsFresh state ⊎ Opened state
