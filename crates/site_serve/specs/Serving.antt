-- What many workers do over one engine.
use Rattle.std.specs.Prelude.{ℕ, zero, suc, List, [], ◌∷◌, ◌++◌, ◌≡◌, ◌+◌, ◌<◌, ◌⊎◌, Bool, true, false, All, map, length, drop, sum_by, option_to_list, None}
use Rattle.std.specs.List.{list_all}
use Rattle.content_state.specs.Replay.{Begins}
use Rattle.content_state.specs.declared.commit.Commit.{Commit}
use Rattle.site_house.specs.History.{History}
use Rattle.site_house.specs.House.{CountRose, IsSublist, by_pass}
use Rattle.site_hall.specs.Hall.{HallView}
use Rattle.site_io.specs.Series.{GivesInTurn, last_moment, last_word}
use Rattle.site_http.specs.Work.{Bench, ServesOne, Follows, CountsDoor}
use Rattle.site_http.specs.declared.worker.Worked.{Worked}
use Rattle.site_http.specs.declared.worker.Worked.TheVariants as worked
use Rattle.site_serve.specs.Stations.{StationView}

-- ---- connections over a whole log

-- so many connections were served as `Before` says, and then one more, whose replies are those of the site over the whole log
pub record ServesNext (whole : History) (old new : Bench) (Before : Bench → Bench → Type 0) : Type 0 where
  pub middle : Bench
  pub before : Before old middle
  pub next : ServesOne middle (record new { history = whole })
  pub follows : Follows middle.history new.history

-- so many connections were served, one after the other, and nothing else was done: all replies are those of the site over the
-- whole log, and the numbers that a connection carries aren't below that of what was seen before it
abbrev pub ServesOver : History → ℕ → Bench → Bench → Type 0
ServesOver whole zero old new = new ≡ old
ServesOver whole (suc count) old new = ServesNext whole old new (ServesOver whole count)

-- ---- one worker

-- What one worker did: its number, its station before and after, why it stopped, how many connections it served, the edits that it
-- handed in, how often one was answered that the keeper failed, and the log that it had seen at the end.
pub record Shift : Type 0 where
  pub number : ℕ
  pub before : StationView
  pub after : StationView
  pub worked : Worked
  pub count : ℕ
  pub handed : List Commit
  pub keepers : ℕ
  pub seen : List Commit

-- what a worker takes from and adds to, at its station; what is kept isn't told, since others keep and drop it meanwhile
abbrev pub bench_of : StationView → List Commit → ℕ → History → Bench
bench_of station handed keepers history = record {
  coming = station.coming;
  returned = station.returned;
  given = station.given;
  words = station.words;
  points = station.points;
  handed = handed;
  keepers = keepers;
  kept = None;
  history = history;
}

-- a log of an engine, to the worker of this number
abbrev pub history_in : HallView → ℕ → List Commit → History
history_in hall number log = record { base = hall.base; log = log; pass = number }

-- A worker began with what the engine had published at the opening, and served its connections over the log of the engine at the end,
-- of which it had seen a front. Its door failed exactly where it stopped for that; no connection is out; its clock and its chance
-- gave in turn. One of its edits was answered that the keeper failed only where the engine's count of the keeper's faults rose. Its
-- edits in that log, those past the opening that bear its number, and the pending one where that bears it, are of those that its
-- connections handed in, in that order.
pub record IsShift (old new : HallView) (shift : Shift) : Type 0 where
  pub serves : ServesOver (history_in old shift.number new.log) shift.count
      (bench_of shift.before [] 0 (history_in old shift.number old.log))
      (bench_of shift.after shift.handed shift.keepers (history_in old shift.number shift.seen))
  pub seen : Begins shift.seen new.log
  pub door : CountsDoor shift.worked shift.before.faults shift.after.faults
  pub none_out : shift.after.is_out ≡ false
  pub moments : GivesInTurn last_moment shift.before.moments shift.after.moments shift.before.given shift.after.given
  pub words : GivesInTurn last_word shift.before.chances shift.after.chances shift.before.words shift.after.words
  pub cause : (shift.keepers ≡ 0) ⊎ CountRose old.faults new.faults
  pub own : IsSublist (by_pass shift.number (drop (length old.log) new.log ++ option_to_list new.pending)) shift.handed

-- ---- all workers

-- they have these numbers, one after the other
abbrev pub AreNumbered : ℕ → List Shift → Type 0
AreNumbered number [] = Unit {0}
AreNumbered number (shift ∷ shifts) = (shift.number ≡ number) × AreNumbered (number + 1) shifts

-- whether a worker stopped because no connection was left to take
abbrev pub had_no_more : Worked → Bool
had_no_more worked.NoMore = true
had_no_more worked.DoorFault = false

-- The stations that were handed in, in order, are those at which the workers began, with the numbers from 0; those handed back, in
-- the same order, are the same at the end of their work. The count is that of all their connections; it is whole exactly where no
-- door failed.
pub record HaveServed (old new : HallView) (before after : List StationView) (count : ℕ) (whole : Bool) : Type 0 where
  pub shifts : List Shift
  pub numbered : AreNumbered 0 shifts
  pub before_are : map (λ shift. shift.before) shifts ≡ before
  pub after_are : map (λ shift. shift.after) shifts ≡ after
  pub each : All (IsShift old new) shifts
  pub count_is : count ≡ sum_by (λ shift. shift.count) shifts
  pub whole_is : whole ≡ list_all (λ shift. had_no_more shift.worked) shifts

-- The engine at the end: of the same keeper, and its log begins with the old one. Each edit past it, and the one that is pending,
-- bears the number of one of so many workers.
pub record GoesOn (old new : HallView) (workers : ℕ) : Type 0 where
  pub base : new.base ≡ old.base
  pub opened : new.opened ≡ old.opened
  pub steadfast : new.steadfast ≡ old.steadfast
  pub grows : Begins old.log new.log
  pub numbered : All (λ commit. commit.pass < workers) (drop (length old.log) new.log ++ option_to_list new.pending)
