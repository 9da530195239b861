-- The steps that a table can make which keeps the rule of turns: those of the laws, each with what its law asks and tells.
use Rattle.std.specs.Prelude.{◌≡◌, ◌+◌, ◌%◌, ◌^◌, ◌<◌, ◌==◌, ℕ, List, [], ◌∷◌, ◌++◌, length, slice_index, slice_set, Bool, Option, Some}
use mathlib.Core.Option.{some}
use mathlib.Core.Option as maybe
use prog.Atomic.{either}
use lib.ListN.{get_elem?}
use Rattle.atomic_table.specs.Table.{State, Me, Act, Valid, carried_after, stepped}
use Rattle.content_state.specs.declared.commit.Commit.{Commit}
use Rattle.turn_rule.specs.declared.notes.TallyNote.{TallyNote}
use Rattle.turn_rule.specs.declared.notes.HallPart.{HallPart}
use Rattle.turn_rule.specs.declared.notes.DeskPart.{DeskPart}
use Rattle.turn_rule.specs.declared.notes.DeskNote.{DeskNote}
use Rattle.turn_rule.specs.declared.notes.PassNote.{PassNote}
use Rattle.turn_rule.specs.declared.notes.Note.{Note}
use Rattle.turn_rule.specs.Rule.{unopened, KeepsRule}
use Rattle.turn_rule.specs.Steps.{spent, bearing, Counts, TurnsBoth, Forgets, left_of, right_of, joined, noted_out, Opens, TakesOut, TakesDesk, Marks, Looks, Follows, FollowsForgetting, TellsFaults, GivesBack, GivesDeskBack, Draws, Meets}

-- A step at a seat, as the table makes it: the word of this number becomes something else, the seat says something else and takes or
-- gives what the act says, and this is what it is told.
pub record IsMade {S : Type 0} (before after : State S Note) (seat : ℕ) (me : Me S Note) (word : ℕ) (becomes : ℕ → ℕ) (tells : ℕ → Me S Note → Type 0) : Type 0 where
  pub sits : get_elem? before.views seat ≡ some me.0
  pub note : Note
  pub act : Act S
  pub valid : Valid before.homes me.1 act
  pub made : after ≡ stepped before word (becomes (slice_index before.words word)) seat me.1 note act
  pub told : tells (slice_index before.words word) (note, carried_after me.1 act)

-- the first pass of a seat gets a seat of its own
pub record IsSplit {S : Type 0} (before after : State S Note) : Type 0 where
  pub seat : ℕ
  pub note : Note
  pub sits : get_elem? before.views seat ≡ some note
  pub made : after ≡ record { words = before.words; homes = before.homes; views = slice_set before.views seat (left_of note) ++ right_of note ∷ [] }

-- the pass of another seat comes to one
pub record IsJoined {S : Type 0} (before after : State S Note) : Type 0 where
  pub seat : ℕ
  pub note : Note
  pub other : ℕ
  pub more : Note
  pub pass : PassNote
  pub more_is : more ≡ bearing pass
  pub sits : get_elem? before.views seat ≡ some note
  pub differ : ¬ (other ≡ seat)
  pub beside : get_elem? (slice_set before.views seat (joined note more)) other ≡ some more
  pub made : after ≡ record { words = before.words; homes = before.homes; views = slice_set (slice_set before.views seat (joined note more)) other spent }

module _ {S : Type 0} (noted : S → Option HallPart) (noted_desk : S → Option DeskNote) where
  -- A turn without the desk, or one that leaves the log and the pending edit as they are.
  pub record IsCounted (before after : State S Note) : Type 0 where
    pub seat : ℕ
    pub me : Me S Note
    pub more : TallyNote
    pub old : HallPart
    pub new : HallPart
    pub had : me.0.hall ≡ Some old
    pub has : noted_out noted noted_desk me.1 ≡ Some new
    pub counts : Counts more old new
    pub step : IsMade before after seat me 0 (λ n. n) (λ _ then. Looks noted noted_desk more me then)

  -- A turn with the desk.
  pub record IsFollowed (before after : State S Note) : Type 0 where
    pub seat : ℕ
    pub me : Me S Note
    pub hands : Bool
    pub pass : PassNote
    pub desk : DeskPart
    pub old : HallPart
    pub new : HallPart
    pub commits : List Commit
    pub grown : ℕ
    pub had : me.0.hall ≡ Some old
    pub at_desk : me.0.desk ≡ Some desk
    pub has : noted_out noted noted_desk me.1 ≡ Some new
    pub bears : me.0.passes ≡ pass ∷ []
    pub turns : TurnsBoth hands pass.number desk old new commits
    pub grown_is : grown ≡ length commits
    pub small : length new.log < 18446744073709551616
    pub step : IsMade before after seat me 0 (λ n. (n + grown) % 2 ^ 64) (λ _ then. Follows noted noted_desk hands me then)

  -- A turn with the desk in which the pending edit is forgotten.
  pub record IsForgotten (before after : State S Note) : Type 0 where
    pub seat : ℕ
    pub me : Me S Note
    pub number : ℕ
    pub commit : Commit
    pub desk : DeskPart
    pub old : HallPart
    pub new : HallPart
    pub had : me.0.hall ≡ Some old
    pub at_desk : me.0.desk ≡ Some desk
    pub has : noted_out noted noted_desk me.1 ≡ Some new
    pub forgets : Forgets number commit desk old new
    pub step : IsMade before after seat me 0 (λ n. n) (λ _ then. FollowsForgetting noted noted_desk me then)

  -- A step of any kind. What a law asks beyond this isn't asked here: so these are all steps of the laws, and no fewer.
  pub data IsStep (before after : State S Note) : Type 0 where
    opens : (seat grown : ℕ) (me : Me S Note) (said : maybe.Option S) → me ≡ (unopened, []) → IsMade before after seat me 0 (λ n. either (n == 0) grown n) (λ _ then. Opens noted noted_desk said me then) → IsStep before after
    takes_hall : (seat taken : ℕ) (me : Me S Note) → IsMade before after seat me 1 (λ n. either (n == 0) taken n) (TakesOut noted noted_desk me) → IsStep before after
    takes_desk : (seat taken : ℕ) (me : Me S Note) → IsMade before after seat me 2 (λ n. either (n == 0) taken n) (TakesDesk noted noted_desk me) → IsStep before after
    marks_gate : (seat : ℕ) (me : Me S Note) → IsMade before after seat me 1 (λ n. either (n == 1) 2 n) (λ _ then. Marks me then) → IsStep before after
    marks_door : (seat : ℕ) (me : Me S Note) → IsMade before after seat me 2 (λ n. either (n == 1) 2 n) (λ _ then. Marks me then) → IsStep before after
    counts : IsCounted before after → IsStep before after
    follows : IsFollowed before after → IsStep before after
    forgets : IsForgotten before after → IsStep before after
    tells_faults : (seat : ℕ) (me : Me S Note) → IsMade before after seat me 0 (λ n. n) (λ _ then. TellsFaults noted noted_desk me then) → IsStep before after
    gives_hall : (seat : ℕ) (me : Me S Note) → IsMade before after seat me 1 (λ _. 0) (λ _ then. GivesBack me then) → IsStep before after
    gives_desk : (seat : ℕ) (me : Me S Note) → IsMade before after seat me 2 (λ _. 0) (λ _ then. GivesDeskBack me then) → IsStep before after
    draws : (seat : ℕ) (me : Me S Note) → IsMade before after seat me 0 (λ n. n) (λ _ then. Draws me then) → IsStep before after
    meets : (seat : ℕ) (me : Me S Note) → IsMade before after seat me 0 (λ n. n) (λ _ then. Meets me then) → IsStep before after
    splits : IsSplit before after → IsStep before after
    joins : IsJoined before after → IsStep before after

  -- These states follow one another from the first, each by a step that keeps the rule.
  abbrev pub AreSteps : State S Note → List (State S Note) → Type 0
  AreSteps first [] = Unit {0}
  AreSteps first (next ∷ others) = IsStep first next × KeepsRule noted noted_desk next × AreSteps next others

-- the last of these states
abbrev pub last_state : {S : Type 0} → State S Note → List (State S Note) → State S Note
last_state first [] = first
last_state first (next ∷ others) = last_state next others
