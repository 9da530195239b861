-- What the program does, by its words, and the status that it ends with.
use Rattle.std.specs.Prelude.{ℕ, List, [], ◌≡◌, ◌⊎◌, Option, Some, None, Ok}
use Rattle.site_io.specs.declared.ended.Ended.{Ended}
use Rattle.site_io.specs.declared.ended.Ended.TheVariants as ended
use Rattle.site_io.specs.Told.{after, AddsFront, Rose}
use Rattle.site_alone.specs.Sites.{starter_site}
use Rattle.content_state.specs.State.{State}
use Rattle.site_io.specs.Series.{AreFirstOf, last_moment, last_word}
use Rattle.site_io.specs.declared.device.Point.{Point}
use Rattle.site_house.specs.History.{newest_of}
use Rattle.kept_pages.specs.Held.{Shelves}
use Rattle.site_alone.specs.House.{opened_on}
use Rattle.site_http.specs.Connection.{Around, Connection}
use Rattle.site_http.specs.Kept.{shelves_of}
use Rattle.content_state.specs.declared.commit.Commit.{Commit}
use Rattle.content_state.specs.SiteRules.{IsValidState}
use Rattle.site_files.specs.Rows.{rows_of as rows_of_file, IsToldBy, IsSiteFault}
use Rattle.site_files.specs.declared.fault.ReadFault.{ReadFault}
use Rattle.site_places.specs.Place.{Known, next_list, clock_given, entropy_given, none_given, IsNoneReached, OpeningFails}
use Rattle.site_cli.specs.Load.{OfFile, ReadingFails}
use Rattle.site_cli.specs.Outside.{Outside, Starves, HasCause}
use Rattle.site_cli.specs.Drilling.{DrillsOrStarves}
use Rattle.site_cli.specs.Jobs.{ImportsOrNot, TellsOrNot}
use Rattle.site_cli.specs.Serving.{HasServingCause, Serves}
use Rattle.site_cli.specs.Words.{usage, Asked, replay, serves, imports, exports, checks, lists, drills}
use Rattle.site_jobs.specs.Jobs.{checked, exported}
use Rattle.site_jobs.specs.Texts.{fault_text}
use Rattle.site_targets.specs.Targets.{targets_text}

-- the status of a connection's end: 0 where it was answered to its end, 8 where it was refused or cut short
abbrev pub status_of : Ended → ℕ
status_of ended.Closed = 0
status_of ended.Asked = 0
status_of ended.Spent = 0
status_of (ended.Refused code) = 8
status_of (ended.Truncated n) = 8
status_of ended.ReadFault = 5
status_of ended.WriteFault = 6
status_of ended.OutOfMemory = 9

-- what stands around a connection whose keeper never failed: what is left, given, drawn, told and written, the edits that were
-- handed in, and what is kept of pages
abbrev pub around : Option (List ℕ) → Option (List ℕ) → Option (List ℕ) → Option (List Point) → Option (List ℕ) → List Commit → Option Shelves → Around
around left given words points written handed kept = record {
  left = left;
  out = record { given = given; words = words; points = points; written = written; handed = handed; keepers = 0; kept = kept };
}

-- the site of a file of these bytes: the rows that they give, no tag of which was ever invalidated, and the number 0
pub record IsSiteOf (bytes : Option (List ℕ)) (base : State) : Type 0 where
  pub told : IsToldBy bytes (λ told. rows_of_file told ≡ Ok base.rows)
  pub counts : base.counts ≡ []
  pub number : base.number ≡ 0
  pub valid : IsValidState base

-- One connection over a site was answered, from the input to the output: at the moments of the place's next list, in
-- turn, with the words of its next list, in turn. Its log is the edits that it handed in, in order, all of which were
-- accepted; no reply says that the keeper failed. Nothing was kept of its pages before. Of the place, one clock and one entropy were
-- taken.
pub record Replays (base : State) (old new : Outside) (status : ℕ) : Type 0 where
  pub end : Ended
  pub given : Option (List ℕ)
  pub drawn : Option (List ℕ)
  pub points : Option (List Point)
  pub points-after : Option (List Point)
  pub log : List Commit
  pub kept : Option Shelves
  pub in_turn : AreFirstOf last_moment (next_list old.place.moments) given
  pub words_in_turn : AreFirstOf last_word (next_list old.place.words) drawn
  pub begins : IsNoneReached points
  pub connection :
      Connection end
      (around old.left (none_given (next_list old.place.moments)) (none_given (next_list old.place.words)) points old.written [] (shelves_of (opened_on base)))
      (around new.left given drawn points-after new.written log kept)
      (record { base = base; log = log; pass = 0 }) 1000 (newest_of base [])
  pub place : new.place ≡ entropy_given (clock_given old.place)
  pub status_is : status ≡ status_of end

-- a text was printed, or a front of it where that failed
abbrev pub Prints : List ℕ → Outside → Outside → Type 0
Prints text old new = (new.written ≡ after old.written text) ⊎ (AddsFront old.written new.written text × Rose old.writing new.writing)

-- the words are no command line: nothing was taken, and the usage was printed
pub record Refuses (old new : Outside) (status : ℕ) : Type 0 where
  pub source : new.left ≡ old.left
  pub sink : Prints usage old new
  pub place : new.place ≡ old.place
  pub status_is : status ≡ 2

-- the rows of the file are no site: nothing of the input was taken, and the first fault of the rows was printed
pub record RefusesRows (file : Known (List ℕ)) (old new : Outside) (status : ℕ) : Type 0 where
  pub fault : ReadFault
  pub text : List ℕ
  pub is_fault : OfFile file (λ bytes. IsSiteFault bytes fault)
  pub says : fault_text fault ≡ Some text
  pub source : new.left ≡ old.left
  pub sink : Prints text old new
  pub place : new.place ≡ old.place
  pub status_is : status ≡ 3

-- the file of rows wasn't opened, or reading it failed, as the place counted: nothing was taken or printed
pub record FailsPlace (old new : Outside) (status : ℕ) : Type 0 where
  pub source : new.left ≡ old.left
  pub sink : new.written ≡ old.written
  pub place : OpeningFails old.place new.place ⊎ ReadingFails old.place new.place
  pub status_is : status ≡ 7

-- one connection over the site of a file was answered
pub record ReplaysFile (file : Known (List ℕ)) (old new : Outside) (status : ℕ) : Type 0 where
  pub base : State
  pub site : OfFile file (λ bytes. IsSiteOf bytes base)
  pub replays : Replays base old new status

-- one connection over a site was answered, or memory was wanting before
abbrev pub ReplaysOrStarves : State → Outside → Outside → ℕ → Type 0
ReplaysOrStarves base old new status = Replays base old new status ⊎ Starves old new status

-- One connection over the site of the file of that path was answered, or its rows were refused, or the place failed to
-- give them, or memory was wanting before. Of a file that the place told is not there, only the last two are left.
abbrev pub ReplaysFileOrStarves : List ℕ → Outside → Outside → ℕ → Type 0
ReplaysFileOrStarves path old new status =
    (ReplaysFile (old.place.file path) old new status ⊎ RefusesRows (old.place.file path) old new status)
    ⊎ (FailsPlace old new status ⊎ Starves old new status)

-- What the program does where nothing is to be served: by the job that its words name, if they name one. Where they ask to
-- serve, memory was wanting before.
abbrev pub RunsJob : Option Asked → Outside → Outside → ℕ → Type 0
RunsJob None old new status = Refuses old new status ⊎ Starves old new status
RunsJob (Some (replay None)) old new status = ReplaysOrStarves starter_site old new status
RunsJob (Some (replay (Some path))) old new status = ReplaysFileOrStarves path old new status
RunsJob (Some (serves what)) old new status = Starves old new status
RunsJob (Some (imports path)) old new status = ImportsOrNot path old new status
RunsJob (Some (exports path)) old new status = TellsOrNot exported path old new status
RunsJob (Some (checks path)) old new status = TellsOrNot checked path old new status
RunsJob (Some (lists path)) old new status = TellsOrNot targets_text path old new status
RunsJob (Some (drills number)) old new status = DrillsOrStarves number old new status

-- what the program does, by the same job
abbrev pub Runs : Option Asked → Outside → Outside → ℕ → Type 0
Runs None old new status = Refuses old new status ⊎ Starves old new status
Runs (Some (replay None)) old new status = ReplaysOrStarves starter_site old new status
Runs (Some (replay (Some path))) old new status = ReplaysFileOrStarves path old new status
Runs (Some (serves what)) old new status = Serves what old new status ⊎ Starves old new status
Runs (Some (imports path)) old new status = ImportsOrNot path old new status
Runs (Some (exports path)) old new status = TellsOrNot exported path old new status
Runs (Some (checks path)) old new status = TellsOrNot checked path old new status
Runs (Some (lists path)) old new status = TellsOrNot targets_text path old new status
Runs (Some (drills number)) old new status = DrillsOrStarves number old new status

-- by which counts the status is told, by the same job
abbrev pub RunsWithCause : Option Asked → Outside → Outside → ℕ → Type 0
RunsWithCause None old new status = HasCause old new status
RunsWithCause (Some (replay path)) old new status = HasCause old new status
RunsWithCause (Some (serves what)) old new status = HasServingCause old new status
RunsWithCause (Some (imports path)) old new status = HasCause old new status
RunsWithCause (Some (exports path)) old new status = HasCause old new status
RunsWithCause (Some (checks path)) old new status = HasCause old new status
RunsWithCause (Some (lists path)) old new status = HasCause old new status
RunsWithCause (Some (drills number)) old new status = HasCause old new status
