-- The turns of an edit, as a pass at its desk sees them.
use Rattle.std.specs.Prelude.{◌≡◌, ◌++◌, ◌∷◌, [], ℕ, List, Bool, Option, Some, None, if◌then◌else◌}
use Rattle.content_state.specs.declared.ask.Ask.{Ask}
use Rattle.content_state.specs.declared.commit.Commit.{Commit}
use Rattle.site_commands.specs.Causes.{Refused}
use Rattle.site_commands.specs.Judged.{judged}
use Rattle.site_commands.specs.declared.answer.Answer.{Answer}
use Rattle.site_commands.specs.declared.answer.Answer.TheVariants as answer
use Rattle.site_commands.specs.declared.command.Command.{Command}
use Rattle.site_keeper.specs.declared.fault.KeeperFault.{KeeperFault}
use Rattle.site_keeper.specs.declared.fault.KeeperFault.TheVariants as keeper_fault
use Rattle.site_hall.specs.Hall.{HallView, number_of, Answers, Tells}
use Rattle.site_hall.specs.Sides.{HallSide, DeskSide, engine_of}
use Rattle.site_hall.specs.Stock.{Stock, Holding, empty_bins, no_tally}
use Rattle.turn_rule.specs.declared.notes.DeskPart.{DeskPart}
use Rattle.turn_rule.specs.Steps.{given}
use Rattle.site_table.specs.Views.{Place, pass_at, part_at}
use Rattle.site_turn.specs.Views.{noted}

-- ---- the hall and the desk, as a seat knows them that has the desk out

-- nothing is kept of pages
abbrev pub bare : Stock
bare = Holding (empty_bins 0 0 0) no_tally

-- the hall, without what is kept of pages
abbrev pub hall_at : DeskPart → HallSide
hall_at part = record { base = part.loaded.base; log = part.log; pending = part.pending; stock = bare }

-- the hall with its desk
abbrev pub engine_at : Place → DeskSide → HallView
engine_at me desk = engine_of (part_at me).loaded.told (hall_at (part_at me)) desk

-- ---- what turns do to the seat

-- The pass at the seat has handed in these then. Its number, what it was opened with and its tally stay, and so do what was loaded and
-- the count of faults that the seat knows of its desk.
pub record HasHanded (handed : List Commit) (old new : Place) : Type 0 where
  pub number : (pass_at new).number ≡ (pass_at old).number
  pub opened : (pass_at new).opened ≡ (pass_at old).opened
  pub tally : (pass_at new).tally ≡ (pass_at old).tally
  pub handed_is : (pass_at new).handed ≡ handed
  pub loaded : (part_at new).loaded ≡ (part_at old).loaded
  pub faults : (part_at new).faults ≡ (part_at old).faults

-- it handed these in, or nothing
abbrev pub HandsIn : List Commit → Place → Place → Type 0
HandsIn commits old new = HasHanded ((pass_at old).handed ++ commits) old new

abbrev pub HandsNothing : Place → Place → Type 0
HandsNothing old new = HasHanded (pass_at old).handed old new

-- what it handed in of an edit that the keeper refused: where memory was wanting the edit is forgotten, and was not handed in
abbrev pub handed_by : KeeperFault → Commit → List Commit
handed_by keeper_fault.Failed commit = commit ∷ []
handed_by keeper_fault.OutOfMemory commit = []

-- ---- what they do to the hall with its desk

-- the edit that was pending is published, or forgotten
abbrev pub settled_engine : Bool → Option Commit → HallView → HallView
settled_engine kept None engine = engine
settled_engine kept (Some commit) engine =
    record engine { log = if kept then engine.log ++ commit ∷ [] else engine.log; pending = None }

-- an edit is pending
abbrev pub announced_engine : Commit → HallView → HallView
announced_engine commit engine = record engine { pending = Some commit }

-- why nothing is to be kept of an edit, on an engine where nothing is pending: it is refused, or memory is wanting
abbrev pub IsStoppedOn : Answer → HallView → Ask → Option (List ℕ) → Command → ℕ → ℕ → Type 0
IsStoppedOn (answer.Done done number) engine ask csrf command now pass = ⊥
IsStoppedOn (answer.Refused refusal number) engine ask csrf command now pass =
    (judged engine.base engine.log ask csrf command now pass ≡ Refused refusal) × (number ≡ number_of engine)
IsStoppedOn answer.Keeper engine ask csrf command now pass = ⊥
IsStoppedOn answer.OutOfMemory engine ask csrf command now pass = Unit {0}

-- ---- what becomes of an edit

-- A pass at its desk made an edit, which was handed in or not.
pub record IsEdited (answer : Answer) (old new : Place) (desk desk-after : DeskSide) (ask : Ask) (csrf : Option (List ℕ)) (command : Command) (now pass : ℕ) : Type 0 where
  pub hands : Bool
  pub answers : Answers answer (engine_at old desk) (engine_at new desk-after) ask csrf command now pass
  pub tells : Tells answer hands (engine_at old desk) (engine_at new desk-after) ask csrf command now pass
  pub handed : HandsIn (given hands (noted (engine_at new desk-after))) old new
