use Rattle.std.proofs.Common.{◌≡◌, false, IfSome}
use Rattle.site_house.specs.House.{Moves, history_of}
use Rattle.site_io.specs.Series.{GivesInTurn, last_moment, last_word}
use Rattle.site_http.specs.Kept.{shelves_of}
use Rattle.site_http.specs.Recent.{AreRecent}
use Rattle.site_http.specs.Work.{ServesBetween}
use Rattle.site_http.proofs.worker.work.Given as goal

abbrev pub invariant-connections : goal.invariant-connections
invariant-connections g l = record {
  serves : ServesBetween
      (record { coming = g.D.Door.coming l.fn.door; returned = g.D.Door.returned l.fn.door; given = g.C.Clock.given l.fn.clock; words = g.E.Entropy.given l.fn.entropy; points = g.G.Gate.reached l.fn.gate; handed = (g.H.House.sees l.fn.house).handed; keepers = (g.H.House.sees l.fn.house).keepers; kept = shelves_of (g.H.House.sees l.fn.house); history = history_of (g.H.House.sees l.fn.house) })
      (record { coming = g.D.Door.coming l.door; returned = g.D.Door.returned l.door; given = g.C.Clock.given l.clock; words = g.E.Entropy.given l.entropy; points = g.G.Gate.reached l.gate; handed = (g.H.House.sees l.house).handed; keepers = (g.H.House.sees l.house).keepers; kept = shelves_of (g.H.House.sees l.house); history = history_of (g.H.House.sees l.house) })
      (g.M.More.claims l.fn.more) (g.M.More.claims l.more);
  moves : Moves (g.H.House.sees l.fn.house) (g.H.House.sees l.house);
  moments : GivesInTurn last_moment (g.C.Clock.moments l.fn.clock) (g.C.Clock.moments l.clock) (g.C.Clock.given l.fn.clock) (g.C.Clock.given l.clock);
  words : GivesInTurn last_word (g.E.Entropy.words l.fn.entropy) (g.E.Entropy.words l.entropy) (g.E.Entropy.given l.fn.entropy) (g.E.Entropy.given l.entropy);
  recent : IfSome l.desk (λ d. AreRecent (g.H.House.sees l.house) d.recent);
  none_out : g.D.Door.is_out l.door ≡ false;
  refused : g.M.More.refusals l.more ≡ g.M.More.refusals l.fn.more;
  same : g.M.More.name l.more ≡ g.M.More.name l.fn.more;
  steady : g.D.Door.faults l.door ≡ g.D.Door.faults l.fn.door;
}
