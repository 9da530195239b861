use Rattle.std.proofs.Common.{◌≤◌, Some}
use Rattle.site_house.specs.House.{Moves, history_of}
use Rattle.site_house.specs.History.{newest}
use Rattle.site_io.specs.Series.{GivesInTurn, last_moment}
use Rattle.site_http.specs.Kept.{shelves_of}
use Rattle.site_http.specs.Recent.{AreRecent}
use Rattle.site_drill.proofs.Underway.{Underway}
use Rattle.site_drill.proofs.served.answer_all.Given as goal

abbrev pub invariant-requests : goal.invariant-requests
invariant-requests g l = record {
  moves : Moves (g.H.House.sees l.fn.house) (g.H.House.sees l.house);
  underway : Underway (record { left = Some l.fn.source; out = record { given = g.C.Clock.given l.fn.clock; words = g.E.Entropy.given l.fn.entropy; points = g.G.Gate.reached l.fn.gate; written = Some l.fn.sink.written; handed = (g.H.House.sees l.fn.house).handed; keepers = (g.H.House.sees l.fn.house).keepers; kept = shelves_of (g.H.House.sees l.fn.house) } }) (record { left = Some l.source; out = record { given = g.C.Clock.given l.clock; words = g.E.Entropy.given l.entropy; points = g.G.Gate.reached l.gate; written = Some l.sink.written; handed = (g.H.House.sees l.house).handed; keepers = (g.H.House.sees l.house).keepers; kept = shelves_of (g.H.House.sees l.house) } }) (history_of (g.H.House.sees l.house)) (newest (history_of (g.H.House.sees l.fn.house))) l.index l.pages (newest (history_of (g.H.House.sees l.house))) l.inbox;
  moments : GivesInTurn last_moment (g.C.Clock.moments l.fn.clock) (g.C.Clock.moments l.clock) (g.C.Clock.given l.fn.clock) (g.C.Clock.given l.clock);
  few : l.pages ≤ l.index;
  recent : AreRecent (g.H.House.sees l.house) l.recent;
}
