use Rattle.std.proofs.Common.{Some, refl}
use Rattle.site_house.specs.History.{newest}
use Rattle.site_house.specs.House.{history_of}
use Rattle.site_http.specs.Kept.{shelves_of}
use Rattle.site_drill.proofs.Stopping.{early_stops}
use Rattle.site_drill.proofs.Underway.{took_reply}
use Rattle.site_drill.proofs.served.answer_next.Goals as goal

pub returns-clause-took : goal.returns-clause-took
returns-clause-took g c =
    took_reply c.shows_page.result c.is_wanting.result
    (record { left = Some c.args.source.now; out = record { given = g.C.Clock.given c.args.clock.now; words = g.E.Entropy.given c.args.entropy.now; points = g.G.Gate.reached c.args.gate.now; written = Some c.args.sink.now.written; handed = (g.H.House.sees c.args.house.now).handed; keepers = (g.H.House.sees c.args.house.now).keepers; kept = shelves_of (g.H.House.sees c.args.house.now) } })
    (record { left = Some c.turn.new.source; out = record { given = g.C.Clock.given c.turn.new.clock; words = g.E.Entropy.given c.turn.new.entropy; points = g.G.Gate.reached c.turn.new.gate; written = Some c.turn.new.sink.written; handed = (g.H.House.sees c.turn.new.house).handed; keepers = (g.H.House.sees c.turn.new.house).keepers; kept = shelves_of (g.H.House.sees c.turn.new.house) } })
    (history_of (g.H.House.sees c.turn.new.house)) c.args.index (newest (history_of (g.H.House.sees c.args.house.now))) c.args.inbox.now c.turn.new.inbox
    c.args.sink.now.written c.turn.new.sink.written c.bytes_from-text.result.now
    refl refl (cc) c.shows_page.ensures c.is_wanting.ensures c.if-is_wanting.false c.in_default.ensures.turned

pub returns-in-Some-clause-stopped : goal.returns-in-Some-clause-stopped
returns-in-Some-clause-stopped g c =
    let early = c.requires.within in
    early_stops
    (record { left = Some c.args.source.now; out = record { given = g.C.Clock.given c.args.clock.now; words = g.E.Entropy.given c.args.entropy.now; points = g.G.Gate.reached c.args.gate.now; written = Some c.args.sink.now.written; handed = (g.H.House.sees c.args.house.now).handed; keepers = (g.H.House.sees c.args.house.now).keepers; kept = shelves_of (g.H.House.sees c.args.house.now) } })
    (record { left = Some c.turn.new.source; out = record { given = g.C.Clock.given c.turn.new.clock; words = g.E.Entropy.given c.turn.new.entropy; points = g.G.Gate.reached c.turn.new.gate; written = Some c.turn.new.sink.written; handed = (g.H.House.sees c.turn.new.house).handed; keepers = (g.H.House.sees c.turn.new.house).keepers; kept = shelves_of (g.H.House.sees c.turn.new.house) } })
    (history_of (g.H.House.sees c.turn.new.house)) c.args.index (newest (history_of (g.H.House.sees c.args.house.now))) c.args.inbox.now c.turn.new.inbox
    c.in-Some.ended c.stop_of.result c.unwrap_or.result c.args.source.now c.turn.new.source c.stop_of.ensures c.unwrap_or.ensures early refl refl c.in-Some.ensures.reads c.in-Some.ensures.turned
