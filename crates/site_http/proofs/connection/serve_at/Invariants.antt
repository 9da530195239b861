use Rattle.std.proofs.Common.{◌≡◌}
use Rattle.site_house.specs.House.{Moves, history_of}
use Rattle.site_io.specs.Series.{GivesInTurn, last_moment, last_word}
use Rattle.site_house.specs.History.{newest}
use Rattle.site_http.specs.Kept.{shelves_of}
use Rattle.site_http.specs.Recent.{AreRecent}
use Rattle.site_http.proofs.Progress.{Progress}
use Rattle.site_http.proofs.connection.serve_at.Given as goal

abbrev pub invariant-requests : goal.invariant-requests
invariant-requests g l = record {
  moves : Moves (g.H.House.sees l.fn.house) (g.H.House.sees l.house);
  progress : Progress (record { left = g.S.Source.left l.fn.source; out = record { given = g.C.Clock.given l.fn.clock; words = g.E.Entropy.given l.fn.entropy; points = g.G.Gate.reached l.fn.gate; written = g.O.Sink.written l.fn.sink; handed = (g.H.House.sees l.fn.house).handed; keepers = (g.H.House.sees l.fn.house).keepers; kept = shelves_of (g.H.House.sees l.fn.house) } }) (record { left = g.S.Source.left l.source; out = record { given = g.C.Clock.given l.clock; words = g.E.Entropy.given l.entropy; points = g.G.Gate.reached l.gate; written = g.O.Sink.written l.sink; handed = (g.H.House.sees l.house).handed; keepers = (g.H.House.sees l.house).keepers; kept = shelves_of (g.H.House.sees l.house) } }) (history_of (g.H.House.sees l.house)) 1000 (newest (history_of (g.H.House.sees l.fn.house))) l.index (newest (history_of (g.H.House.sees l.house))) l.inbox;
  moments : GivesInTurn last_moment (g.C.Clock.moments l.fn.clock) (g.C.Clock.moments l.clock) (g.C.Clock.given l.fn.clock) (g.C.Clock.given l.clock);
  words : GivesInTurn last_word (g.E.Entropy.words l.fn.entropy) (g.E.Entropy.words l.entropy) (g.E.Entropy.given l.fn.entropy) (g.E.Entropy.given l.entropy);
  recent : AreRecent (g.H.House.sees l.house) l.recent;
  reading : g.S.Source.faults l.source ≡ g.S.Source.faults l.fn.source;
  writing : g.O.Sink.faults l.sink ≡ g.O.Sink.faults l.fn.sink;
}
