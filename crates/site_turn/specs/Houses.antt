-- What a caller sees of a site, through its pass.
use Rattle.std.specs.Prelude.{ℕ, List, ◌∷◌, length, None}
use Rattle.atomic_table.specs.Seated.{TableId}
use Rattle.turn_rule.specs.declared.notes.PassNote.{PassNote}
use Rattle.site_commands.specs.declared.answer.Answer.{Answer}
use Rattle.site_commands.specs.declared.answer.Answer.TheVariants as answer
use Rattle.site_house.specs.House.{HouseView, up}
use Rattle.site_turn.specs.Views.{PassView}

-- a table as numbers, by which it is named where nothing is known of tables
abbrev pub table_name : TableId → List ℕ
table_name table = table.words ∷ table.slots ∷ table.views_name ∷ table.atom ∷ table.block ∷ table.offset ∷ table.slot_names

-- the house that a pass has, by this name, which was answered so often that the keeper failed, and so often that something wasn't
-- kept. What is kept of pages isn't told: other passes keep and drop it meanwhile.
abbrev pub house_of : PassNote → List ℕ → ℕ → ℕ → HouseView
house_of note name keepers unkept = record {
  base = note.opened.loaded.base;
  seen = note.seen;
  number = note.number;
  opened = length note.opened.log;
  name = name;
  faults = note.faults;
  steadfast = note.opened.loaded.steadfast;
  handed = note.handed;
  keepers = keepers;
  bins = None;
  unkept = unkept;
}

-- the house of a guest, which borrows its pass: it is named by the borrow and by the table of the site
abbrev pub guest_of : PassView → ℕ → ℕ → ℕ → HouseView
guest_of pass borrow keepers unkept = house_of pass.note (borrow ∷ table_name pass.table) keepers unkept

-- how often it was answered that the keeper failed, after this answer
abbrev pub keepers_after : Answer → ℕ → ℕ
keepers_after (answer.Done done number) keepers = keepers
keepers_after (answer.Refused refusal number) keepers = keepers
keepers_after answer.Keeper keepers = up keepers
keepers_after answer.OutOfMemory keepers = keepers
