use Rattle.std.proofs.Common.{Err, subst, sym}
use Rattle.keeper_sqlite.proofs.Turns.{kept_by, given_up_by, not_begun}
use Rattle.keeper_sqlite.proofs.keeping.keep.Goals as goal
use Rattle.keeper_sqlite.specs.Batches.{KeepsBatch, Makes, Keeps}
use Rattle.store_six.specs.At.{at}
use Rattle.store_six.specs.Calls.{Nothing, Begins, Runs}

pub returns-in-Ok-write_batch : goal.returns-in-Ok-write_batch
returns-in-Ok-write_batch g c =
    kept_by c.args.batch.now (at g.X.Six c.args.six.now) (at g.X.Six c.begin.new.self) (at g.X.Six c.write_batch.new.six) (at g.X.Six c.commit.new.six) tt tt c.commit.result (subst (Runs Nothing Begins (at g.X.Six c.args.six.now) (at g.X.Six c.begin.new.self)) c.in-Ok.is c.begin.ensures)
    (subst (Makes (KeepsBatch c.args.batch.now) (at g.X.Six c.begin.new.self) (at g.X.Six c.write_batch.new.six)) c.in-Ok-write_batch.is c.write_batch.ensures) c.commit.ensures.runs c.commit.ensures.outside

pub returns-in-Err-write_batch : goal.returns-in-Err-write_batch
returns-in-Err-write_batch g c =
    subst (λ f. Keeps c.args.batch.now (at g.X.Six c.args.six.now) (at g.X.Six c.given_up.new.six) (Err f)) (sym c.given_up.ensures.same)
    (given_up_by c.args.batch.now (at g.X.Six c.args.six.now) (at g.X.Six c.begin.new.self) (at g.X.Six c.write_batch.new.six) (at g.X.Six c.given_up.new.six) tt c.in-Err-write_batch.fault (subst (Runs Nothing Begins (at g.X.Six c.args.six.now) (at g.X.Six c.begin.new.self)) c.in-Ok.is c.begin.ensures)
    (subst (Makes (KeepsBatch c.args.batch.now) (at g.X.Six c.begin.new.self) (at g.X.Six c.write_batch.new.six)) c.in-Err-write_batch.is c.write_batch.ensures) c.given_up.ensures.undone)

pub returns-in-Err : goal.returns-in-Err
returns-in-Err g c = not_begun c.args.batch.now (at g.X.Six c.args.six.now) (at g.X.Six c.begin.new.self) c.in-Err.fault (subst (Runs Nothing Begins (at g.X.Six c.args.six.now) (at g.X.Six c.begin.new.self)) c.in-Err.is c.begin.ensures)
