-- The crew at work.
use Rattle.std.specs.Prelude.{ℕ, List, [], ◌∷◌, ◌≡◌, ◌+◌, true, false}
use Rattle.std.specs.List.{AllZip}
use Rattle.atomic_table.specs.Seated.{TableId}
use Rattle.site_io.specs.Series.{GivesInTurn, last_moment, last_word}
use Rattle.site_house.specs.House.{HouseView, Moves, history_of}
use Rattle.site_http.specs.Kept.{shelves_of}
use Rattle.site_http.specs.Work.{Bench, CountsDoor, Works}
use Rattle.site_http.specs.declared.worker.Worked.{Worked}
use Rattle.site_http.specs.declared.worker.Worked.TheVariants as worked
use Rattle.site_claims.specs.Claims.{ClaimerView, ClaimsView, name_of}
use Rattle.turn_rule.specs.Steps.{new_pass}
use Rattle.turn_rule.specs.declared.notes.HallNote.{HallNote}
use Rattle.site_turn.specs.Houses.{house_of}
use Rattle.site_turn.specs.Views.{PassView, SiteView}
use Rattle.site_turn.specs.declared.workers.Worker.{Worker}
use Rattle.site_serve.specs.Stations.{StationView}
use Rattle.site_serve.specs.Serving.{bench_of}

-- a station and a house, as a worker has them
abbrev pub bench_in : StationView → HouseView → Bench
bench_in station house = record (bench_of station house.handed house.keepers (history_of house)) { kept = shelves_of house }

-- A worker served connections at its station, in this house, as it had leave to.
pub record DidServe (old new : StationView) (claimer claimer-after : ClaimerView) (end : Worked) (before after : HouseView) : Type 0 where
  pub works : Works end (bench_in old before) (bench_in new after) claimer.claims claimer-after.claims
  pub door : CountsDoor end old.faults new.faults
  pub none_out : new.is_out ≡ false
  pub over : end ≡ worked.NoMore → claimer-after.is_over ≡ true
  pub same : name_of claimer-after.table ≡ name_of claimer.table
  pub moves : Moves before after
  pub moments : GivesInTurn last_moment old.moments new.moments old.given new.given
  pub words : GivesInTurn last_word old.chances new.chances old.words new.words

-- one of the crew: its station, its pass, what it claims by, and why it stopped, once it has
pub record Member : Type 0 where
  pub station : StationView
  pub pass : PassView
  pub claimer : ClaimerView
  pub worked : Worked

-- a worker at its station, what it claims by, and why it stopped, once it has
pub record ServerView : Type 0 where
  pub station : StationView
  pub claimer : ClaimerView
  pub worked : Worked

-- a worker with its pass, as one of the crew
abbrev pub member_of : Worker ServerView → Member
member_of worker = record {
  station = worker.work.station;
  pass = worker.pass;
  claimer = worker.work.claimer;
  worked = worker.work.worked;
}

-- one of the crew did, in the house of its pass
pub record HasServed (old new : Member) : Type 0 where
  pub name : List ℕ
  pub keepers : ℕ
  pub unkept : ℕ
  pub table : new.pass.table ≡ old.pass.table
  pub did : DidServe old.station new.station old.claimer new.claimer new.worked (house_of old.pass.note name 0 0) (house_of new.pass.note name keepers unkept)

-- all did
abbrev pub AllServed : List Member → List Member → Type 0
AllServed old new = AllZip HasServed old new

-- ---- the crew before its work

-- where the passes and the claims lie, the engine that the site was opened with, and how many numbers are claimed from
pub record Footing : Type 0 where
  pub room : TableId
  pub claims : TableId
  pub opened : HallNote
  pub limit : ℕ

-- the footing of a new site and new claims
abbrev pub footing_of : SiteView → ClaimsView → Footing
footing_of site claims = record { room = site.table; claims = claims.table; opened = site.founder.opened; limit = claims.limit }

-- a new member, with a pass of this number
abbrev pub member_at : Footing → ℕ → StationView → Member
member_at footing number station = record {
  station = station;
  pass = record { table = footing.room; note = new_pass (record { made = number; opened = footing.opened }) };
  claimer = record { table = footing.claims; limit = footing.limit; claims = 0; is_over = false };
  worked = worked.NoMore;
}

-- new members for these stations, with passes from this number on
abbrev pub members : Footing → ℕ → List StationView → List Member
members footing number [] = []
members footing number (station ∷ stations) = member_at footing number station ∷ members footing (number + 1) stations

-- ---- the crew after it

-- one where a worker stopped for its door
abbrev pub faulted : Worked → ℕ
faulted worked.NoMore = 0
faulted worked.DoorFault = 1

-- a member may begin: no connection is out at its door, its pass is of the site of this table, and it claims from the other one
pub record IsReady (room claims : TableId) (member : Member) : Type 0 where
  pub none_out : member.station.is_out ≡ false
  pub here : member.pass.table ≡ room
  pub claims_here : member.claimer.table ≡ claims
