use Rattle.std.proofs.Common.{◌≡◌, ◌∷◌, ◌+◌, drop, ap, sym, ◌∙◌, subst}
use Rattle.std.proofs.lemmas.List.{drop_all, drop_more}
use Rattle.keeper_sqlite.proofs.Turns.{Leads, leads_from_all, leads_on, all_in_turn, wrote_nothing, wrote_then, makes_all, stops}
use Rattle.keeper_sqlite.proofs.keeping.make_writes.Goals as goal
use Rattle.keeper_sqlite.specs.Batches.{InTurn, MakesWrite, Makes}
use Rattle.store_six.specs.At.{at}

pub writes-init : goal.writes-init
writes-init g c = wrote_nothing (at g.X.Six c.args.six.now) (Leads MakesWrite c.args.writes.now c.args.writes.now) (leads_from_all MakesWrite c.args.writes.now)

pub returns-in-Err : goal.returns-in-Err
returns-in-Err g c =
    stops (at g.X.Six c.args.six.now) (at g.X.Six c.writes.six) (at g.X.Six c.make_write.new.six) (Leads MakesWrite c.args.writes.now (drop c.writes.write-index c.args.writes.now)) (MakesWrite c.write-item.result) (InTurn MakesWrite c.args.writes.now) c.in-Err.fault c.writes.invariant
    (subst (Makes (MakesWrite c.write-item.result) (at g.X.Six c.writes.six) (at g.X.Six c.make_write.new.six)) c.in-Err.is c.make_write.ensures)

pub writes-preserved : goal.writes-preserved
writes-preserved g c =
    let rest = drop_more c.args.writes.now c.writes.write-index c.write-item.result c.writes-test.true ∙ ap (λ x. x ∷ (drop (c.writes.write-index + 1) c.args.writes.now)) (sym c.write-item.is) in
    wrote_then (at g.X.Six c.args.six.now) (at g.X.Six c.writes.six) (at g.X.Six c.make_write.new.six) (Leads MakesWrite c.args.writes.now (drop c.writes.write-index c.args.writes.now)) (MakesWrite c.write-item.result) (Leads MakesWrite c.args.writes.now (drop (c.writes.write-index + 1) c.args.writes.now)) (leads_on MakesWrite c.args.writes.now c.write-item.result (drop c.writes.write-index c.args.writes.now) (drop (c.writes.write-index + 1) c.args.writes.now) rest) c.writes.invariant
    (subst (Makes (MakesWrite c.write-item.result) (at g.X.Six c.writes.six) (at g.X.Six c.make_write.new.six)) c.in-Ok.is c.make_write.ensures).ok

pub returns : goal.returns
returns g c = makes_all (at g.X.Six c.args.six.now) (at g.X.Six c.writes.six) (InTurn MakesWrite c.args.writes.now) tt (all_in_turn MakesWrite c.args.writes.now (at g.X.Six c.args.six.now) (at g.X.Six c.writes.six) (drop c.writes.write-index c.args.writes.now) (drop_all c.writes.write-index c.args.writes.now c.writes-test.false) c.writes.invariant)
