-- What never falls from an earlier state of the table to a later one.
use Rattle.std.specs.Prelude.{◌≡◌, ◌<◌, ◌≤◌, ℕ, List, length, slice_index, Option, Some}
use mathlib.Core.Option.{some}
use lib.ListN.{get_elem?}
use Rattle.atomic_table.specs.Table.{State, Me, Step, Allows}
use Rattle.content_state.specs.Replay.{Begins, replay}
use Rattle.turn_rule.specs.declared.notes.HallPart.{HallPart}
use Rattle.turn_rule.specs.declared.notes.DeskNote.{DeskNote}
use Rattle.turn_rule.specs.declared.notes.PassNote.{PassNote}
use Rattle.turn_rule.specs.declared.notes.FounderNote.{FounderNote}
use Rattle.turn_rule.specs.declared.notes.Note.{Note}
use Rattle.turn_rule.specs.Rule.{KeepsRule, IsAmong}
use Rattle.turn_laws.specs.Words.{Sits, Bears}
use Rattle.turn_laws.specs.Words as words
use Rattle.turn_order.specs.Steps.{IsMade, AreSteps, last_state}

-- the number of the newest state that a pass has seen
abbrev pub number_seen : PassNote → ℕ
number_seen pass = (replay pass.opened.loaded.base pass.seen).number

-- the number of a hall's newest state
abbrev pub newest_number : HallPart → ℕ
newest_number hall = (replay hall.base hall.log).number

-- the same pass, which has seen no less
pub record IsLater (pass later : PassNote) : Type 0 where
  pub number : later.number ≡ pass.number
  pub opened : later.opened ≡ pass.opened
  pub seen : Begins pass.seen later.seen

pub record NeverFalls {S : Type 0} (first last : State S Note) : Type 0 where
  -- the first word, which is the length of the hall's log, doesn't fall
  pub word : slice_index first.words 0 ≤ slice_index last.words 0
  -- each pass stands on some seat still, and has seen no less
  pub passes : (seat : ℕ) (pass : PassNote) → Bears first seat pass → (other : ℕ) × (later : PassNote) × Bears last other later × IsLater pass later
  -- whoever has the hall out in the later state finds all in its log that any pass had seen in the earlier
  pub finds : (seat other : ℕ) (pass : PassNote) (note : Note) (hall : HallPart) → Bears first seat pass → Sits last other note → note.hall ≡ Some hall
      → Begins pass.seen hall.log × (number_seen pass ≤ newest_number hall)
  -- and what a pass has seen by a turn that is then made is of no lower number
  pub numbers : (seat other : ℕ) (pass also : PassNote) (note : Note) (hall : HallPart) → Bears first seat pass → Sits last other note → note.hall ≡ Some hall
      → IsAmong also note.passes → also.seen ≡ hall.log → number_seen pass ≤ number_seen also

-- From any state that keeps the rule, by any number of its steps.
abbrev pub NumbersNeverFall : {S : Type 0} → (S → Option HallPart) → (S → Option DeskNote) → Type 0
NumbersNeverFall {S} noted noted_desk = (first : State S Note) (others : List (State S Note)) → KeepsRule noted noted_desk first → AreSteps noted noted_desk first others → NeverFalls first (last_state first others)

-- ---- logs

-- The table as its first step leaves it: the founder's seat has the hall out that the site was opened with.
pub record IsJustOpened {S : Type 0} (state : State S Note) : Type 0 where
  pub seat : ℕ
  pub note : Note
  pub hall : HallPart
  pub founder : FounderNote
  pub sits : Sits state seat note
  pub has : note.hall ≡ Some hall
  pub founds : note.founder ≡ Some founder
  pub opened : founder.opened.log ≡ hall.log

module _ {S : Type 0} (noted : S → Option HallPart) (noted_desk : S → Option DeskNote) where
  -- this is the hall, in its slot or out with a seat
  abbrev pub IsHallAt : State S Note → HallPart → Type 0
  IsHallAt state hall = words.IsHallAt noted state hall

  -- What a law of turn_laws allows leads from any state that keeps the rule to one that is made so, and keeps it.
  abbrev pub StepsAreMade : (Step S → Me S Note → ℕ → Me S Note → Type 0) → Type 0
  StepsAreMade tells = (step : Step S) (slots seat : ℕ) (me : Me S Note) (word : ℕ) (becomes : ℕ → ℕ) → Allows (KeepsRule noted noted_desk) slots seat me word becomes (tells step me)
      → (before : State S Note) → KeepsRule noted noted_desk before → length before.homes ≡ slots → get_elem? before.views seat ≡ some me.0 → slice_index before.words word < 18446744073709551616
      → (after : State S Note) × IsMade before after seat me word becomes (tells step me) × KeepsRule noted noted_desk after

  -- Of any two states of a table since it was opened, the hall's log in the earlier is a front of that in the later.
  abbrev pub LogsOnlyGrow : Type 0
  LogsOnlyGrow = (first : State S Note) (others more : List (State S Note)) (hall later : HallPart) → KeepsRule noted noted_desk first → IsJustOpened first
      → AreSteps noted noted_desk first others → AreSteps noted noted_desk (last_state first others) more
      → IsHallAt (last_state first others) hall → IsHallAt (last_state (last_state first others) more) later
      → Begins hall.log later.log × (newest_number hall ≤ newest_number later)
