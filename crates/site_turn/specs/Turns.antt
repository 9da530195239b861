-- What a turn of a pass does: it takes the hall out, one call of the hall is made, and it gives the hall back. And what an edit does,
-- which is several turns.
use Rattle.std.specs.Prelude.{◌≡◌, ◌≤◌, ℕ, List, [], ◌∷◌, Bool, true, Option, Some, Result}
use Rattle.std.specs.declared.alloc.AllocError.{AllocError}
use Rattle.cache_entries.specs.declared.key.Key.{Key}
use Rattle.cache_entries.specs.declared.kept.Bin.{Bin}
use Rattle.cache_entries.specs.declared.kept.Found.{Found}
use Rattle.cache_entries.specs.declared.kept.Kept.{Kept}
use Rattle.content_state.specs.Replay.{Begins}
use Rattle.content_state.specs.declared.ask.Ask.{Ask}
use Rattle.site_commands.specs.declared.answer.Answer.{Answer}
use Rattle.site_commands.specs.declared.command.Command.{Command}
use Rattle.site_hall.specs.Hall.{HallView, IsHall, Answers, Tells}
use Rattle.site_hall.specs.Looked.{LooksUp, KeepsUnder}
use Rattle.site_hall.specs.Sides.{HallSide, IsHallSide, with_shelves}
use Rattle.turn_rule.specs.declared.notes.TallyNote.{TallyNote}
use Rattle.turn_rule.specs.declared.notes.HallNote.{HallNote}
use Rattle.turn_rule.specs.declared.notes.HallPart.{HallPart}
use Rattle.turn_rule.specs.declared.notes.PassNote.{PassNote}
use Rattle.turn_rule.specs.Steps.{zeros, bearing, with_hall, after_turn, after_look, Counts, Knows, KnowsHall}
use Rattle.site_table.specs.Turns.{counts_of_look, counts_of_keep}
use Rattle.site_table.specs.Views.{Place, nothing, part_of, pass_at}
use Rattle.site_turn.specs.Views.{noted}

-- ---- a turn that reads

-- The seat of a pass, and of nothing else, has the hall out. What the turn did to it leaves this hall, and counts this.
pub record IsOut (more : TallyNote) (me : Place) (hall : HallSide) : Type 0 where
  pub old : HallPart
  pub me_is : me ≡ (with_hall (Some old) (bearing (pass_at me)), (0, nothing) ∷ [])
  pub counts : Counts more old (part_of hall)

-- A pass once a turn is over that counted this, found the table's hall so and left it so: it notes both, it has seen all that the hall
-- published, and it knows the hall. Its count of faults stays, since it hasn't asked the keeper.
pub record HasLooked (more : TallyNote) (old new : PassNote) (found hall : HallPart) : Type 0 where
  pub is : new ≡ after_look more found hall old
  pub grows : Begins old.seen new.seen
  pub knows : KnowsHall hall new

-- A pass had the table's hall out, and log and pending edit stayed; its turn did this to the hall, and counted this. `before` and `after`
-- are that hall as it came out and as it went back, since the pass notes them (`went`): log, pending edit, tally and bins.
pub record Looks (more : TallyNote) (does : HallSide → HallSide → Type 0) (old new : PassNote) : Type 0 where
  pub before : HallSide
  pub after : HallSide
  pub knows : KnowsHall (part_of before) old
  pub did : does before after
  pub is_hall : IsHallSide after
  pub went : HasLooked more old new (part_of before) (part_of after)

-- it only read: the hall is as it was
abbrev pub Reads : PassNote → PassNote → Type 0
Reads old new = Looks zeros (λ before after. after ≡ before) old new

-- something was looked for under a key in a bin of the table's hall, in which nothing else changed
abbrev pub LooksFor : Result Found AllocError → Bin → Key → PassNote → PassNote → Type 0
LooksFor result bin key old new =
    Looks (counts_of_look result) (λ before after. LooksUp result before.stock after.stock bin key × (after ≡ with_shelves before after.stock)) old new

-- something was to be kept under a key in a bin of the table's hall, in which nothing else changed
abbrev pub PutsUnder : Result (Unit {0}) AllocError → Bin → Key → Kept → PassNote → PassNote → Type 0
PutsUnder result bin key kept old new =
    Looks (counts_of_keep result) (λ before after. KeepsUnder result before.stock after.stock bin key kept × (after ≡ with_shelves before after.stock)) old new

-- ---- an edit

-- the same pass, which found the first of these halls by a turn that read, and left the second
abbrev pub finding : HallPart → HallPart → PassNote → PassNote
finding found left pass = record {
  number = pass.number;
  opened = pass.opened;
  seen = pass.seen;
  handed = pass.handed;
  faults = pass.faults;
  tally = pass.tally;
  found = found;
  left = left;
}

-- A pass once its edit is over, which counted this, left this hall with its desk, and handed an edit in or nothing: it has seen all that
-- the hall published, and it knows the hall and the desk. How it found the hall where it read the newest state isn't told.
pub record Went (more : TallyNote) (hands : Bool) (old new : PassNote) (hall : HallNote) : Type 0 where
  pub is : new ≡ finding new.found new.left (after_turn more hands hall old)
  pub grows : Begins old.seen new.seen
  pub never_falls : old.faults ≤ new.faults
  pub steady : old.opened.loaded.steadfast ≡ true → new.faults ≡ old.faults
  pub knows : Knows hall new

-- A pass made an edit, which bears its number, and was handed in or not: it had the desk out, and the hall for a turn at a time. `before`
-- and `after` are the hall with its desk, when the desk came out and when it went back. What is kept of pages isn't told of them: other
-- passes look and keep meanwhile.
pub record Commits (answer : Answer) (old new : PassNote) (ask : Ask) (csrf : Option (List ℕ)) (command : Command) (now : ℕ) : Type 0 where
  pub before : HallView
  pub after : HallView
  pub hands : Bool
  pub knows : Knows (noted before) old
  pub answers : Answers answer before after ask csrf command now old.number
  pub tells : Tells answer hands before after ask csrf command now old.number
  pub is_hall : IsHall after
  pub went : Went zeros hands old new (noted after)
