-- What many steps leave of the bins.
use Rattle.std.specs.Prelude.{◌≡◌, List, [], ◌∷◌, Option}
use Rattle.atomic_table.specs.Table.{State}
use Rattle.turn_rule.specs.declared.notes.HallPart.{HallPart}
use Rattle.turn_rule.specs.declared.notes.DeskNote.{DeskNote}
use Rattle.turn_rule.specs.declared.notes.Note.{Note}
use Rattle.turn_rule.specs.Rule.{KeepsRule}
use Rattle.turn_laws.specs.Laws.{HallGoes}
use Rattle.turn_laws.specs.Words.{IsHallAt}
use Rattle.turn_order.specs.Steps.{last_state}

-- what is kept of pages, and what was counted of it, is as it was
pub record KeepsBins (hall later : HallPart) : Type 0 where
  pub bins : later.bins ≡ hall.bins
  pub tally : later.tally ≡ hall.tally

module _ {S : Type 0} (noted : S → Option HallPart) (noted_desk : S → Option DeskNote) where
  -- A step leaves the bins as they were: so does each kind of step, by its law in turn_laws, but a turn that is counted.
  abbrev pub IsQuiet : State S Note → State S Note → Type 0
  IsQuiet before after = HallGoes noted noted_desk KeepsBins before after

  -- These states follow one another from the first, each by such a step.
  abbrev pub AreQuiet : State S Note → List (State S Note) → Type 0
  AreQuiet first [] = Unit {0}
  AreQuiet first (next ∷ others) = IsQuiet first next × AreQuiet next others

  -- After any number of such steps the bins are as they were: a turn finds there what the last turn left that was counted.
  abbrev pub BinsStay : Type 0
  BinsStay = (first : State S Note) (others : List (State S Note)) (hall later : HallPart) → AreQuiet first others → KeepsRule noted noted_desk (last_state first others)
      → IsHallAt noted first hall → IsHallAt noted (last_state first others) later → KeepsBins hall later
