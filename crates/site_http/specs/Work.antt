-- What a worker does: it serves the connections of a door, one after the other.
use Rattle.std.specs.Prelude.{ℕ, zero, suc, List, ◌≡◌, ◌+◌, Option}
use Rattle.content_state.specs.Replay.{Begins}
use Rattle.content_state.specs.declared.commit.Commit.{Commit}
use Rattle.site_io.specs.declared.device.Point.{Point}
use Rattle.site_io.specs.Told.{Rose}
use Rattle.site_io.specs.Doors.{Line, Back, IsNext, later_lines, and_back}
use Rattle.kept_pages.specs.Held.{Shelves}
use Rattle.site_house.specs.History.{History, newest}
use Rattle.site_http.specs.Connection.{Around, Connection, CountsReads, CountsWrites}
use Rattle.site_http.specs.declared.worker.Worked.{Worked}
use Rattle.site_http.specs.declared.worker.Worked.TheVariants as worked

-- What a worker takes from and adds to: the connections that are to come and those that were given back, where the door tells
-- them; the moments and words that were given, and the points that were told; the edits that were handed in, and how often one
-- was answered that the keeper failed; what its house keeps, where it tells that; and what it has seen.
pub record Bench : Type 0 where
  pub coming : Option (List Line)
  pub returned : Option (List Back)
  pub given : Option (List ℕ)
  pub words : Option (List ℕ)
  pub points : Option (List Point)
  pub handed : List Commit
  pub keepers : ℕ
  pub kept : Option Shelves
  pub history : History

-- what stands around a connection that is served at such a bench
abbrev pub around_of : Bench → Line → Around
around_of bench line = record {
  left = line.left;
  out = record { given = bench.given; words = bench.words; points = bench.points; written = line.written; handed = bench.handed; keepers = bench.keepers; kept = bench.kept };
}

-- the same caller has seen as much of the same site, or more
pub record Follows (old new : History) : Type 0 where
  pub base : new.base ≡ old.base
  pub pass : new.pass ≡ old.pass
  pub grows : Begins old.log new.log

-- One connection was accepted, the next one to come; it has the promise of the whole over what the house had seen at its end, which
-- begins with what it had seen before, with no number below that of this; and it was given back with its end, which tells a fault
-- exactly where a count of faults of its two ends rose.
pub record ServesOne (old new : Bench) : Type 0 where
  pub line : Line
  pub back : Back
  pub next : IsNext old.coming line
  pub later : new.coming ≡ later_lines old.coming
  pub given_back : new.returned ≡ and_back old.returned back
  pub reads : CountsReads back.end line.reading back.line.reading
  pub writes : CountsWrites back.end line.writing back.line.writing
  pub connection : Connection back.end (around_of old line) (around_of new back.line) new.history 1000 (newest old.history)
  pub follows : Follows old.history new.history

-- one connection more, after so many
pub record ServesLast (old new : Bench) (Before : Bench → Bench → Type 0) : Type 0 where
  pub middle : Bench
  pub before : Before old middle
  pub last : ServesOne middle new

-- so many connections were served, one after the other, and nothing else was done
abbrev pub Serves : ℕ → Bench → Bench → Type 0
Serves zero old new = new ≡ old
Serves (suc count) old new = ServesLast old new (Serves count)

-- so many connections were served as leave was given from one count to the other
pub record ServesBetween (old new : Bench) (claims claims-after : ℕ) : Type 0 where
  pub count : ℕ
  pub serves : Serves count old new
  pub claimed : claims-after ≡ claims + count

-- The worker stopped: it served as many connections as it had leave for, or one less where the door failed.
abbrev pub Works : Worked → Bench → Bench → ℕ → ℕ → Type 0
Works worked.NoMore old new claims claims-after = ServesBetween old new claims claims-after
Works worked.DoorFault old new claims claims-after = ServesBetween old new (claims + 1) claims-after

-- a fault of the door is told exactly where its count of faults rose
abbrev pub CountsDoor : Worked → ℕ → ℕ → Type 0
CountsDoor worked.NoMore old new = new ≡ old
CountsDoor worked.DoorFault old new = Rose old new

-- that no leave was given is told exactly where the last call of all asked for it in vain; it was asked in vain nowhere else
abbrev pub CountsMore : Worked → ℕ → ℕ → Type 0
CountsMore worked.NoMore old new = new ≡ old + 1
CountsMore worked.DoorFault old new = new ≡ old
