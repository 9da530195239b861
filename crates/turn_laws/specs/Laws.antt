-- Each kind of step keeps the rule, what becomes of the hall in it, and what is then true of the words and the seats. The rule is by what
-- is noted of the values in the slots.
use Rattle.std.specs.Prelude.{◌≡◌, ◌≢◌, ◌+◌, ◌%◌, ◌^◌, ◌<◌, ◌≤◌, ◌==◌, ℕ, List, [], ◌∷◌, ◌++◌, length, slice_index, slice_set, Bool, true, false, ◌⊎◌, Option, Some, None}
use mathlib.Core.Option.{some}
use mathlib.Core.Option as maybe
use prog.Atomic.{either}
use lib.ListN.{get_elem?}
use Rattle.atomic_table.specs.Table.{State, Me, Act, Valid, carried_after, stepped, Allows, Splits, Joins}
use Rattle.content_state.specs.declared.commit.Commit.{Commit}
use Rattle.turn_rule.specs.declared.notes.TallyNote.{TallyNote}
use Rattle.turn_rule.specs.declared.notes.HallNote.{HallNote}
use Rattle.turn_rule.specs.declared.notes.HallPart.{HallPart}
use Rattle.turn_rule.specs.declared.notes.DeskPart.{DeskPart}
use Rattle.turn_rule.specs.declared.notes.DeskNote.{DeskNote}
use Rattle.turn_rule.specs.declared.notes.PassNote.{PassNote}
use Rattle.turn_rule.specs.declared.notes.FounderNote.{FounderNote}
use Rattle.turn_rule.specs.declared.notes.Note.{Note}
use Rattle.turn_rule.specs.Logs.{hall_part, desk_part, whole_of, Agree, StandsFor}
use Rattle.turn_rule.specs.Rule.{Counted, count_of, unopened, IsFresh, KeepsRule}
use Rattle.turn_rule.specs.Steps.{bearing, founding, spent, with_hall, with_desk, with_passes, Counts, TurnsBoth, Forgets, left_of, right_of, joined, Opens, TakesOut, TakesDesk, Marks, Looks, Follows, FollowsForgetting, TellsFaults, GivesBack, GivesDeskBack, Draws, Meets, Closes}
use Rattle.turn_laws.specs.Words.{IsHallAt, InPlainWords}

-- ---- what becomes of the hall in a step

-- it stays, with its bins
abbrev pub Stays : HallPart → HallPart → Type 0
Stays hall later = later ≡ hall

-- it was the first of these, and is the second
abbrev pub Becomes : HallPart → HallPart → HallPart → HallPart → Type 0
Becomes old new hall later = (hall ≡ old) × (later ≡ new)

module _ {S : Type 0} (noted : S → Option HallPart) (noted_desk : S → Option DeskNote) where
  abbrev Rule : State S Note → Type 0
  Rule = KeepsRule noted noted_desk

  -- this becomes of the hall, where it is in its slot or out with a seat
  abbrev pub HallGoes : (HallPart → HallPart → Type 0) → State S Note → State S Note → Type 0
  HallGoes goes before after = (hall : HallPart) → IsHallAt noted before hall → (later : HallPart) × IsHallAt noted after later × goes hall later

  -- A step as `Allows` has it: from whatever state of the table keeps the rule it leads to one that does, and this becomes of the hall.
  abbrev pub Leads : (HallPart → HallPart → Type 0) → ℕ → ℕ → Me S Note → ℕ → (ℕ → ℕ) → (ℕ → Me S Note → Type 0) → Type 0
  Leads goes slots seat me word becomes tells = (s : State S Note) → Rule s → length s.homes ≡ slots → get_elem? s.views seat ≡ some me.0 → slice_index s.words word < 18446744073709551616
      → (note : Note) × (act : Act S) × Valid s.homes me.1 act
      × (Rule (stepped s word (becomes (slice_index s.words word)) seat me.1 note act) × HallGoes goes s (stepped s word (becomes (slice_index s.words word)) seat me.1 note act))
      × tells (slice_index s.words word) (note, carried_after me.1 act)

  -- the same, of which nothing is said of the hall: what a table asks of a step
  abbrev pub Lets : (HallPart → HallPart → Type 0) → ℕ → ℕ → Me S Note → ℕ → (ℕ → ℕ) → (ℕ → Me S Note → Type 0) → Type 0
  Lets goes slots seat me word becomes tells = Allows Rule slots seat me word becomes tells

  -- Each law is in either form.
  abbrev Form : Type 1
  Form = (HallPart → HallPart → Type 0) → ℕ → ℕ → Me S Note → ℕ → (ℕ → ℕ) → (ℕ → Me S Note → Type 0) → Type 0

  -- the table before the first step
  abbrev pub TablesBeginFresh : Type 0
  TablesBeginFresh = (value other : S) → noted value ≡ None → noted_desk other ≡ None
      → Rule (record { words = 0 ∷ 1 ∷ 1 ∷ []; homes = some value ∷ some other ∷ []; views = unopened ∷ [] })

  -- The first word becomes the length of the log of a hall, with nothing pending, that is announced with its desk. The desk's keeper
  -- stands for that log.
  abbrev pub SitesOpen : Type 0
  SitesOpen = (slots seat : ℕ) (me : Me S Note) (value : S) (whole : HallNote) (desk : DeskNote) (grown : ℕ) (said : maybe.Option S) → slots ≡ 2 → me ≡ (unopened, [])
      → said ≡ some value → noted value ≡ Some (hall_part whole) → noted_desk value ≡ Some desk → StandsFor desk (desk_part whole)
      → whole.pending ≡ None → ((counted : Counted) → count_of counted whole.tally < 18446744073709551616) → grown ≡ length whole.log
      → Allows Rule slots seat me 0 (λ n. either (n == 0) grown n) (λ _ new. Opens noted noted_desk said me new)

  -- The gate becomes some other number where it was 0.
  abbrev pub HallsAreTakenOut : Form → Type 0
  HallsAreTakenOut Holds = (slots seat : ℕ) (me : Me S Note) (taken : ℕ) → slots ≡ 2 → taken ≢ 0 → me.0.fresh ≡ false
      → Holds Stays slots seat me 1 (λ n. either (n == 0) taken n) (TakesOut noted noted_desk me)

  -- The door becomes some other number where it was 0.
  abbrev pub DesksAreTakenOut : Form → Type 0
  DesksAreTakenOut Holds = (slots seat : ℕ) (me : Me S Note) (taken : ℕ) → slots ≡ 2 → taken ≢ 0 → me.0.fresh ≡ false
      → Holds Stays slots seat me 2 (λ n. either (n == 0) taken n) (TakesDesk noted noted_desk me)

  -- The gate becomes 2 where it was 1, at a seat that waits for the hall.
  abbrev pub GatesAreMarked : Form → Type 0
  GatesAreMarked Holds = (slots seat : ℕ) (me : Me S Note) → slots ≡ 2 → me.0.fresh ≡ false
      → Holds Stays slots seat me 1 (λ n. either (n == 1) 2 n) (λ _ new. Marks me new)

  -- The door becomes 2 where it was 1, at a seat that waits for the desk.
  abbrev pub DoorsAreMarked : Form → Type 0
  DoorsAreMarked Holds = (slots seat : ℕ) (me : Me S Note) → slots ≡ 2 → me.0.fresh ≡ false
      → Holds Stays slots seat me 2 (λ n. either (n == 1) 2 n) (λ _ new. Marks me new)

  -- The first word is read after a turn of the seat's pass that left the log and the pending edit as they were.
  abbrev pub LooksAreCounted : Form → Type 0
  LooksAreCounted Holds = (more : TallyNote) (slots seat : ℕ) (me : Me S Note) (pass : PassNote) (desk : Option DeskPart) (value : S) (others : List (ℕ × S)) (old new : HallPart) → slots ≡ 2
      → me ≡ (with_hall (Some old) (with_desk desk (bearing pass)), (0, value) ∷ others) → noted value ≡ Some new → Counts more old new
      → Holds (Becomes old new) slots seat me 0 (λ n. n) (λ _ after. Looks noted noted_desk more me after)

  -- After a turn of the seat's pass, which has the desk, the first word grows by the edits that came into the log.
  abbrev pub LogsAreFollowed : Form → Type 0
  LogsAreFollowed Holds = (hands : Bool) (slots seat : ℕ) (me : Me S Note) (pass : PassNote) (desk : DeskPart) (value : S) (others : List (ℕ × S)) (old new : HallPart) (commits : List Commit) (grown : ℕ) → slots ≡ 2
      → me ≡ (with_hall (Some old) (with_desk (Some desk) (bearing pass)), (0, value) ∷ others) → noted value ≡ Some new → TurnsBoth hands pass.number desk old new commits
      → grown ≡ length commits → length new.log < 18446744073709551616
      → Holds (Becomes old new) slots seat me 0 (λ n. (n + grown) % 2 ^ 64) (λ _ after. Follows noted noted_desk hands me after)

  -- The first word is read after a turn in which the pending edit, which the seat's pass handed in last, was forgotten.
  abbrev pub EditsAreForgotten : Form → Type 0
  EditsAreForgotten Holds = (slots seat : ℕ) (me : Me S Note) (pass : PassNote) (handed : List Commit) (commit : Commit) (desk : DeskPart) (value : S) (others : List (ℕ × S)) (old new : HallPart) → slots ≡ 2
      → me ≡ (with_hall (Some old) (with_desk (Some desk) (bearing pass)), (0, value) ∷ others) → noted value ≡ Some new
      → pass.handed ≡ handed ++ commit ∷ [] → Forgets pass.number commit desk old new
      → Holds (Becomes old new) slots seat me 0 (λ n. n) (λ _ after. FollowsForgetting noted noted_desk me after)

  -- The first word is read at a seat that has the desk, whose keeper may have failed.
  abbrev pub FaultsAreTold : Form → Type 0
  FaultsAreTold Holds = (slots seat : ℕ) (me : Me S Note) (pass : PassNote) (part : DeskPart) (value : S) (desk : DeskNote) → slots ≡ 2
      → me ≡ (with_desk (Some part) (bearing pass), (1, value) ∷ []) → noted_desk value ≡ Some desk → part.faults ≤ desk.faults
      → (part.loaded.steadfast ≡ true → desk.faults ≡ part.faults)
      → Holds Stays slots seat me 0 (λ n. n) (λ _ after. TellsFaults noted noted_desk me after)

  -- The gate becomes 0, at a seat that has the hall of which it says so.
  abbrev pub HallsAreGivenBack : Form → Type 0
  HallsAreGivenBack Holds = (slots seat : ℕ) (me : Me S Note) (note : Note) (value : S) (others : List (ℕ × S)) (hall : HallPart) → slots ≡ 2 → me ≡ (note, (0, value) ∷ others)
      → note.fresh ≡ false → note.hall ≡ Some hall → noted value ≡ Some hall
      → Holds Stays slots seat me 1 (λ _. 0) (λ _ new. GivesBack me new)

  -- The door becomes 0, at a seat that has the desk, whose keeper stands for the log of which it says so.
  abbrev pub DesksAreGivenBack : Form → Type 0
  DesksAreGivenBack Holds = (slots seat : ℕ) (me : Me S Note) (note : Note) (value : S) (others : List (ℕ × S)) (desk : DeskNote) (part : DeskPart) → slots ≡ 2 → me ≡ (note, (1, value) ∷ others)
      → note.fresh ≡ false → note.desk ≡ Some part → noted_desk value ≡ Some desk → StandsFor desk part
      → Holds Stays slots seat me 2 (λ _. 0) (λ _ new. GivesDeskBack me new)

  -- The first word is read at the founder's seat.
  abbrev pub PassesAreDrawn : Form → Type 0
  PassesAreDrawn Holds = (slots seat : ℕ) (me : Me S Note) (founder : FounderNote) → slots ≡ 2 → me ≡ (founding founder, [])
      → Holds Stays slots seat me 0 (λ n. n) (λ _ new. Draws me new)

  -- The first word is read at a seat that two passes stand on.
  abbrev pub PassesMeet : Form → Type 0
  PassesMeet Holds = (slots seat : ℕ) (me : Me S Note) (pass other : PassNote) → slots ≡ 2 → me ≡ (with_passes (pass ∷ other ∷ []) spent, [])
      → Holds Stays slots seat me 0 (λ n. n) (λ _ new. Meets me new)

  -- The first pass of a seat gets a seat of its own.
  abbrev pub PassesGetSeats : Type 0
  PassesGetSeats = (seat : ℕ) (note : Note) (pass : PassNote) (passes : List PassNote) → note.fresh ≡ false → note.passes ≡ pass ∷ passes
      → Splits Rule seat note (left_of note) (right_of note)

  -- A pass comes to another seat.
  abbrev pub PassesJoinSeats : Type 0
  PassesJoinSeats = (seat : ℕ) (note : Note) (other : ℕ) (more : Note) (pass : PassNote) → note.fresh ≡ false → more ≡ bearing pass
      → Joins Rule seat note other more (joined note more) spent

  -- The hall stays where the first pass of a seat gets a seat of its own.
  abbrev pub HallsStayAtSplits : Type 0
  HallsStayAtSplits = (s : State S Note) (seat : ℕ) (note : Note) → get_elem? s.views seat ≡ some note
      → HallGoes Stays s (record { words = s.words; homes = s.homes; views = slice_set s.views seat (left_of note) ++ right_of note ∷ [] })

  -- It stays where a pass comes to another seat.
  abbrev pub HallsStayAtJoins : Type 0
  HallsStayAtJoins = (s : State S Note) (seat other : ℕ) (note more : Note) (pass : PassNote) → get_elem? s.views seat ≡ some note → more ≡ bearing pass
      → get_elem? (slice_set s.views seat (joined note more)) other ≡ some more
      → HallGoes Stays s (record { words = s.words; homes = s.homes; views = slice_set (slice_set s.views seat (joined note more)) other spent })

  -- The founder has the hall and the desk out, and passes on its seat.
  abbrev pub SitesClose : Type 0
  SitesClose = (state : State S Note) (seat : ℕ) (note : Note) (hall : HallPart) (desk : DeskPart) (founder : FounderNote) → Rule state → get_elem? state.views seat ≡ some note
      → note.fresh ≡ false → note.hall ≡ Some hall → note.desk ≡ Some desk → note.founder ≡ Some founder → Agree hall desk × Closes founder (whole_of hall desk) note.passes

  -- The rule says no less than this.
  abbrev pub RuleInPlainWords : Type 0
  RuleInPlainWords = (state : State S Note) → Rule state → IsFresh noted noted_desk state ⊎ ((hall : HallNote) × InPlainWords noted noted_desk state hall)
