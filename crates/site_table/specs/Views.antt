-- What lies in the slots of a site's table, and what is read off the notes of its seats.
use Rattle.std.specs.Prelude.{◌≡◌, List, [], ◌∷◌, false, Option, Some, None, option_map}
use Rattle.atomic_table.specs.Seated.{TableId}
use Rattle.atomic_table.specs.Table.{Me}
use Rattle.turn_rule.specs.declared.notes.TallyNote.{TallyNote}
use Rattle.turn_rule.specs.declared.notes.HallNote.{HallNote}
use Rattle.turn_rule.specs.declared.notes.HallPart.{HallPart}
use Rattle.turn_rule.specs.declared.notes.DeskPart.{DeskPart}
use Rattle.turn_rule.specs.declared.notes.DeskNote.{DeskNote}
use Rattle.turn_rule.specs.declared.notes.PassNote.{PassNote}
use Rattle.turn_rule.specs.declared.notes.Note.{Note}
use Rattle.turn_rule.specs.Logs.{hall_part}
use Rattle.turn_rule.specs.Steps.{zeros}
use Rattle.site_hall.specs.Sides.{HallSide, DeskSide}
use Rattle.site_hall.specs.Stock.{bins_in, tally_in, empty_bins}
use Rattle.site_hall.specs.declared.tally.Tally.{Tally}

-- ---- halls and desks

-- what a hall counted
abbrev pub tally_note : Tally → TallyNote
tally_note tally = record { looks = tally.looks; found = tally.found; kept = tally.kept }

-- what is noted of a hall
abbrev pub part_of : HallSide → HallPart
part_of hall = record {
  base = hall.base;
  log = hall.log;
  pending = hall.pending;
  tally = tally_note (tally_in hall.stock);
  bins = bins_in hall.stock;
}

-- what is noted of a desk
abbrev pub desk_note : DeskSide → DeskNote
desk_note desk = record { pending = desk.pending; kept = desk.kept; faults = desk.faults; steadfast = desk.steadfast }

-- ---- slots

-- What lies in a slot: a hall or none, and a desk or none. The first slot is for the hall, and the second for the desk.
abbrev pub Lodging : Type 0
Lodging = Option HallSide × Option DeskSide

abbrev pub nothing : Lodging
nothing = (None, None)

-- what is noted of a slot
abbrev pub noted_in : Lodging → Option HallPart
noted_in lodging = option_map part_of lodging.0

abbrev pub desk_in : Lodging → Option DeskNote
desk_in lodging = option_map desk_note lodging.1

-- the table of a site has three words, and two slots
abbrev pub IsRoom : TableId → Type 0
IsRoom table = (table.words ≡ 3) × (table.slots ≡ 2)

-- what a seat says and has out
abbrev pub Place : Type 0
Place = Me Lodging Note

-- ---- what is read off the seats' notes

-- what stands for a note where there is none
abbrev pub no_hall : HallNote
no_hall = record {
  loaded = record { base = record { rows = []; counts = []; number = 0 }; told = None; steadfast = false };
  log = [];
  pending = None;
  faults = 0;
  tally = zeros;
  bins = empty_bins 0 0 0;
}

abbrev pub no_part : HallPart
no_part = hall_part no_hall

abbrev pub no_pass : PassNote
no_pass = record {
  number = 0;
  opened = no_hall;
  seen = [];
  handed = [];
  faults = 0;
  tally = zeros;
  found = no_part;
  left = no_part;
}

-- the first of these passes
abbrev pub first_pass : List PassNote → PassNote
first_pass [] = no_pass
first_pass (pass ∷ passes) = pass

abbrev pub pass_of : List Note → PassNote
pass_of [] = no_pass
pass_of (note ∷ notes) = first_pass note.passes

-- what is said at a desk
abbrev pub part_in : Option DeskPart → DeskPart
part_in None = record { loaded = no_hall.loaded; log = []; pending = None; faults = 0 }
part_in (Some part) = part

-- what is said of a hall that is out
abbrev pub out_in : Option HallPart → HallPart
out_in None = no_part
out_in (Some part) = part

-- the pass of a seat, and what the seat says of the hall and of the desk that it has out
abbrev pub pass_at : Place → PassNote
pass_at me = first_pass me.0.passes

abbrev pub out_at : Place → HallPart
out_at me = out_in me.0.hall

abbrev pub part_at : Place → DeskPart
part_at me = part_in me.0.desk
