use Rattle.std.proofs.Common.{◌≡◌, subst, rules}
use Rattle.keeper_sqlite.proofs.Turns.{makes_then, refused_at_once}
use Rattle.keeper_sqlite.proofs.keeping.write_batch.Goals as goal
use Rattle.keeper_sqlite.specs.Batches.{InTurn, MakesWrite, SetsRest, KeepsBatch, Makes}
use Rattle.store_six.specs.At.{at}

pub returns-in-Ok : goal.returns-in-Ok
returns-in-Ok g c =
    let same : c.as_slice.result.now ≡ c.args.batch.now.commit.writes = search rules in
    makes_then (at g.X.Six c.args.six.now) (at g.X.Six c.make_writes.new.six) (at g.X.Six c.set_rest.new.six) (InTurn MakesWrite c.as_slice.result.now) (SetsRest c.args.batch.now) (KeepsBatch c.args.batch.now) (λ x y z writes rest. (y, subst (λ l. InTurn MakesWrite l x y) same writes, rest)) c.set_rest.result
    (subst (Makes (InTurn MakesWrite c.as_slice.result.now) (at g.X.Six c.args.six.now) (at g.X.Six c.make_writes.new.six)) c.in-Ok.is c.make_writes.ensures).ok c.set_rest.ensures

pub returns-in-Err : goal.returns-in-Err
returns-in-Err g c =
    refused_at_once (at g.X.Six c.args.six.now) (at g.X.Six c.make_writes.new.six) (InTurn MakesWrite c.as_slice.result.now) (KeepsBatch c.args.batch.now) c.in-Err.fault (subst (Makes (InTurn MakesWrite c.as_slice.result.now) (at g.X.Six c.args.six.now) (at g.X.Six c.make_writes.new.six)) c.in-Err.is c.make_writes.ensures)
