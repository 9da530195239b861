-- The end of a site, with all its passes.
use Rattle.std.specs.Prelude.{◌≡◌, ◌<◌, ◌==◌, ℕ, List, Bool, All, Some, map}
use Rattle.std.specs.List.{list_any}
use Rattle.atomic_table.specs.Seated.{TableId}
use Rattle.turn_rule.specs.declared.notes.HallNote.{HallNote}
use Rattle.turn_rule.specs.declared.notes.HallPart.{HallPart}
use Rattle.turn_rule.specs.declared.notes.DeskPart.{DeskPart}
use Rattle.turn_rule.specs.declared.notes.PassNote.{PassNote}
use Rattle.turn_rule.specs.declared.notes.FounderNote.{FounderNote}
use Rattle.turn_rule.specs.declared.notes.Note.{Note}
use Rattle.turn_rule.specs.Steps.{AreAll, Closes}
use Rattle.turn_rule.specs.Logs.{since, whole_of, Agree}
use Rattle.site_turn.specs.Views.{PassView}

-- what these passes know
abbrev pub notes_of : List PassView → List PassNote
notes_of passes = map (λ pass. pass.note) passes

-- these are passes of the site with this table
abbrev pub AreOf : TableId → List PassView → Type 0
AreOf table passes = All (λ pass. pass.table ≡ table) passes

-- whether one of these has this number
abbrev pub has_number : ℕ → List PassView → Bool
has_number number passes = list_any (λ pass. pass.note.number == number) passes

-- The hall at the end of a site that was opened as its founder knows, with these passes: they are all that were made. What was loaded is
-- what the site was opened with, and the log begins with that one's; each pass has seen a front of the log, its edits since the
-- opening, and the pending one where that is its own, are of those that it handed in, in that order, and what the hall counted is the sum
-- of theirs (`Closes`). Each edit since the opening, and the pending one, bears the number of one of them.
pub record IsClosed (founder : FounderNote) (hall : HallNote) (passes : List PassNote) : Type 0 where
  pub all : AreAll founder.made passes
  pub closes : Closes founder hall passes
  pub numbered : All (λ commit. commit.pass < founder.made) (since founder.opened hall)

-- what the seat that closes a table tells, where it has the hall, the desk and the founder
pub record Ends (hall : HallPart) (desk : DeskPart) (founder : FounderNote) (passes : List PassNote) : Type 0 where
  pub agree : Agree hall desk
  pub closes : Closes founder (whole_of hall desk) passes
  pub numbered : All (λ commit. commit.pass < founder.made) (since founder.opened (whole_of hall desk))

abbrev pub EndsWith : Note → Type 0
EndsWith note = (hall : HallPart) (desk : DeskPart) (founder : FounderNote) → note.hall ≡ Some hall → note.desk ≡ Some desk → note.founder ≡ Some founder
    → Ends hall desk founder note.passes
