use Rattle.std.proofs.Common.{◌≡◌, ◌∷◌, ◌+◌, drop, ap, sym, ◌∙◌, subst}
use Rattle.std.proofs.lemmas.List.{drop_all, drop_more}
use Rattle.keeper_sqlite.proofs.Turns.{Leads, leads_from_all, leads_on, all_in_turn, wrote_nothing, wrote_then, makes_all, stops}
use Rattle.keeper_sqlite.proofs.keeping.set_counts.Goals as goal
use Rattle.keeper_sqlite.specs.Batches.{InTurn, SetsCount, Makes}
use Rattle.store_six.specs.At.{at}

pub counts-init : goal.counts-init
counts-init g c = wrote_nothing (at g.X.Six c.args.six.now) (Leads SetsCount c.args.counts.now c.args.counts.now) (leads_from_all SetsCount c.args.counts.now)

pub returns-in-Err : goal.returns-in-Err
returns-in-Err g c =
    stops (at g.X.Six c.args.six.now) (at g.X.Six c.counts.six) (at g.X.Six c.set_count.new.six) (Leads SetsCount c.args.counts.now (drop c.counts.entry-index c.args.counts.now)) (SetsCount c.entry-item.result) (InTurn SetsCount c.args.counts.now) c.in-Err.fault c.counts.invariant
    (subst (Makes (SetsCount c.entry-item.result) (at g.X.Six c.counts.six) (at g.X.Six c.set_count.new.six)) c.in-Err.is c.set_count.ensures)

pub counts-preserved : goal.counts-preserved
counts-preserved g c =
    let rest = drop_more c.args.counts.now c.counts.entry-index c.entry-item.result c.counts-test.true ∙ ap (λ x. x ∷ (drop (c.counts.entry-index + 1) c.args.counts.now)) (sym c.entry-item.is) in
    wrote_then (at g.X.Six c.args.six.now) (at g.X.Six c.counts.six) (at g.X.Six c.set_count.new.six) (Leads SetsCount c.args.counts.now (drop c.counts.entry-index c.args.counts.now)) (SetsCount c.entry-item.result) (Leads SetsCount c.args.counts.now (drop (c.counts.entry-index + 1) c.args.counts.now)) (leads_on SetsCount c.args.counts.now c.entry-item.result (drop c.counts.entry-index c.args.counts.now) (drop (c.counts.entry-index + 1) c.args.counts.now) rest) c.counts.invariant
    (subst (Makes (SetsCount c.entry-item.result) (at g.X.Six c.counts.six) (at g.X.Six c.set_count.new.six)) c.in-Ok.is c.set_count.ensures).ok

pub returns : goal.returns
returns g c = makes_all (at g.X.Six c.args.six.now) (at g.X.Six c.counts.six) (InTurn SetsCount c.args.counts.now) tt (all_in_turn SetsCount c.args.counts.now (at g.X.Six c.args.six.now) (at g.X.Six c.counts.six) (drop c.counts.entry-index c.args.counts.now) (drop_all c.counts.entry-index c.args.counts.now c.counts-test.false) c.counts.invariant)
