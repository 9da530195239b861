-- A site and its passes, as contracts see them.
use Rattle.std.specs.Prelude.{◌≡◌, ℕ, List, [], ◌∷◌, Option, Some, None}
use Rattle.atomic_table.specs.Seated.{TableId}
use Rattle.turn_rule.specs.declared.notes.HallNote.{HallNote}
use Rattle.turn_rule.specs.declared.notes.PassNote.{PassNote}
use Rattle.turn_rule.specs.declared.notes.FounderNote.{FounderNote}
use Rattle.turn_rule.specs.declared.notes.Note.{Note}
use Rattle.turn_rule.specs.Steps.{bearing, founding, AreOwnIn}
use Rattle.site_hall.specs.Hall.{HallView}
use Rattle.site_hall.specs.Stock.{bins_in, tally_in}
use Rattle.site_table.specs.Views.{IsRoom, tally_note, no_hall, pass_of}

-- a pass: the table that its site lies in, and what the pass knows
pub record PassView : Type 0 where
  pub table : TableId
  pub note : PassNote

-- a site: its table, and what the founder of its passes knows
pub record SiteView : Type 0 where
  pub table : TableId
  pub founder : FounderNote

-- what is noted of an engine
abbrev pub noted : HallView → HallNote
noted hall = record {
  loaded = record { base = hall.base; told = hall.opened; steadfast = hall.steadfast };
  log = hall.log;
  pending = hall.pending;
  faults = hall.faults;
  tally = tally_note (tally_in hall.stock);
  bins = bins_in hall.stock;
}

-- ---- what is read off the seats' notes

abbrev no_founder : FounderNote
no_founder = record { made = 0; opened = no_hall }

abbrev pub founder_in : Option FounderNote → FounderNote
founder_in None = no_founder
founder_in (Some founder) = founder

abbrev pub founder_of : List Note → FounderNote
founder_of [] = no_founder
founder_of (note ∷ notes) = founder_in note.founder

-- What always holds of a pass, by the notes of its seat, its number and its count of faults.
pub record HasPass (notes : List Note) (number faults : ℕ) : Type 0 where
  pub bears : notes ≡ bearing (pass_of notes) ∷ []
  pub number_is : number ≡ (pass_of notes).number
  pub faults_is : faults ≡ (pass_of notes).faults
  -- its edits since the opening, of those that it has seen, are of those that it handed in, in that order
  pub own : AreOwnIn (pass_of notes) (pass_of notes).seen

-- What always holds of a site, by its table, and the table and the notes of the founder's seat.
pub record HasFounder (table seat : TableId) (notes : List Note) (made faults : ℕ) : Type 0 where
  pub room : IsRoom table
  pub one_table : seat ≡ table
  pub founds : notes ≡ founding (founder_of notes) ∷ []
  pub made_is : made ≡ (founder_of notes).made
  pub faults_is : faults ≡ (founder_of notes).opened.faults
