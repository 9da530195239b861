use Rattle.std.proofs.Common.{◌∙◌, Option, inl, subst, sym}
use Rattle.std.specs.Prelude.{IfSome}
use Rattle.site_house.specs.House.{history_of}
use Rattle.site_http.specs.Kept.{shelves_of}
use Rattle.site_http.specs.Connection.{Around}
use Rattle.site_http.proofs.Progress.{starved_first}
use Rattle.site_http.specs.Recent.{AreRecent}
use Rattle.site_http.specs.declared.desk.Desk.{Desk}
use Rattle.site_http.proofs.Again.{made_ready}
use Rattle.site_http.proofs.connection.serve_next.Goals as goal
use Rattle.site_http.proofs.connection.serve_next.Goals.{then-is_none, else-is_none}

pub returns-in_default-clause-connection : goal.returns-in_default-clause-connection
returns-in_default-clause-connection g c =
    let house = g.H.House.sees c.args.house.now in
    let old : Around = record { left = g.S.Source.left c.args.source.now; out = record { given = g.C.Clock.given c.args.clock.now; words = g.E.Entropy.given c.args.entropy.now; points = g.G.Gate.reached c.args.gate.now; written = g.O.Sink.written c.args.sink.now; handed = house.handed; keepers = house.keepers; kept = shelves_of house } } in
    inl (starved_first old (history_of house) 1000)

pub serve_at-requires : goal.serve_at-requires
serve_at-requires g c =
    let house = g.H.House.sees c.args.house.now in
    let ready : IfSome c.if-is_none.desk (λ (d : Desk). AreRecent house d.recent) = elim c.if-is_none.branch [
      | then-is_none w ↦ subst (λ (o : Option Desk). IfSome o (λ (d : Desk). AreRecent house d.recent)) (sym (w.desk-is ∙ w.replace.ensures.after ∙ w.ok-made.ensures.value)) (made_ready w.new.result house w.new.ensures)
      | else-is_none w ↦ subst (λ (o : Option Desk). IfSome o (λ (d : Desk). AreRecent house d.recent)) (sym w.desk-is) c.requires.recent
    ] in
    record { recent = subst (λ (o : Option Desk). IfSome o (λ (d : Desk). AreRecent house d.recent)) c.in-Some.is ready }
