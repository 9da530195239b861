-- The edits of a hall, as they are published or pending, and what the hall and its desk say of them.
use Rattle.std.specs.Prelude.{◌≡◌, List, [], ◌∷◌, ◌++◌, length, drop, Option, Some, None, option_to_list, option_map}
use Rattle.content_state.specs.Replay.{replay}
use Rattle.content_state.specs.declared.commit.Commit.{Commit}
use Rattle.site_keeper.specs.Batch.{Batch}
use Rattle.site_keeper.specs.Keeper.{IfTold}
use Rattle.site_keeper.specs.Steps.{stored_of, batch_of}
use Rattle.site_keeper.specs.Keeping.{with_pending, KeepsFor}
use Rattle.site_house.specs.House.{AreValid}
use Rattle.turn_rule.specs.declared.notes.HallNote.{HallNote}
use Rattle.turn_rule.specs.declared.notes.HallPart.{HallPart}
use Rattle.turn_rule.specs.declared.notes.DeskPart.{DeskPart}
use Rattle.turn_rule.specs.declared.notes.DeskNote.{DeskNote}

-- the pending edit, if any is
abbrev pub waiting : HallNote → List Commit
waiting hall = option_to_list hall.pending

-- the edits of a log since the opening, and then the one that is pending
abbrev pub since_in : HallNote → List Commit → Option Commit → List Commit
since_in opened log pending = drop (length opened.log) log ++ option_to_list pending

-- the edits since the opening, and then the pending one
abbrev pub since : HallNote → HallNote → List Commit
since opened hall = since_in opened hall.log hall.pending

-- the last edit of a log, if it has any
abbrev pub last_of : List Commit → List Commit
last_of [] = []
last_of (commit ∷ []) = commit ∷ []
last_of (commit ∷ other ∷ others) = last_of (other ∷ others)

-- the edit that was handed in last: it is pending, or it stands last in the log
abbrev pub newest_of : List Commit → Option Commit → List Commit
newest_of log None = last_of log
newest_of log (Some commit) = commit ∷ []

-- ---- the parts of the whole

-- what the hall says of it
abbrev pub hall_part : HallNote → HallPart
hall_part whole = record { base = whole.loaded.base; log = whole.log; pending = whole.pending; tally = whole.tally; bins = whole.bins }

-- what is said of it at the desk
abbrev pub desk_part : HallNote → DeskPart
desk_part whole = record { loaded = whole.loaded; log = whole.log; pending = whole.pending; faults = whole.faults }

-- a hall with its desk, which says what was loaded and how often the keeper failed
abbrev pub whole_of : HallPart → DeskPart → HallNote
whole_of hall desk =
    record { loaded = desk.loaded; log = hall.log; pending = hall.pending; faults = desk.faults; tally = hall.tally; bins = hall.bins }

-- They are of one state, one log and one pending edit.
pub record Agree (hall : HallPart) (desk : DeskPart) : Type 0 where
  pub base : hall.base ≡ desk.loaded.base
  pub log : hall.log ≡ desk.log
  pub pending : hall.pending ≡ desk.pending

-- ---- the keeper

-- the batch of the edit that is pending
abbrev pub batched : DeskPart → Option Batch
batched part = option_map (batch_of (replay part.loaded.base part.log)) part.pending

-- The keeper of a desk stands for the log: where it told what was loaded, it has kept just the published edits, or the pending
-- one besides. The desk has the batch of the pending one. Each state that these edits make of the loaded one is valid, that of the
-- pending edit too.
pub record StandsFor (desk : DeskNote) (part : DeskPart) : Type 0 where
  pub valid : AreValid part.loaded.base (with_pending part.log part.pending)
  pub pending : desk.pending ≡ batched part
  pub loaded : IfTold part.loaded.told (λ held. held ≡ stored_of part.loaded.base)
  pub faults : desk.faults ≡ part.faults
  pub steadfast : desk.steadfast ≡ part.loaded.steadfast
  pub keeps : KeepsFor part.loaded.base part.loaded.told desk.kept part.log part.pending
