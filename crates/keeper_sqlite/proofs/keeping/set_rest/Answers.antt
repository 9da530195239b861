use Rattle.std.proofs.Common.{◌≡◌, subst, rules}
use Rattle.keeper_sqlite.proofs.Turns.{makes_then, refused_at_once}
use Rattle.keeper_sqlite.proofs.keeping.set_rest.Goals as goal
use Rattle.keeper_sqlite.specs.Batches.{InTurn, SetsCount, SetsHead, SetsRest, Makes}
use Rattle.store_six.specs.At.{at}

pub returns-in-Ok : goal.returns-in-Ok
returns-in-Ok g c =
    let counts : c.as_slice.result.now ≡ c.args.batch.now.counts = search rules in
    let head : c.batch.inside.head ≡ c.args.batch.now.head = search rules in
    makes_then (at g.X.Six c.args.six.now) (at g.X.Six c.set_counts.new.six) (at g.X.Six c.set_head.new.six) (InTurn SetsCount c.as_slice.result.now) (SetsHead c.batch.inside.head) (SetsRest c.args.batch.now)
    (λ x y z set last. (y, subst (λ l. InTurn SetsCount l x y) counts set, subst (λ n. SetsHead n y z) head last)) c.set_head.result
    (subst (Makes (InTurn SetsCount c.as_slice.result.now) (at g.X.Six c.args.six.now) (at g.X.Six c.set_counts.new.six)) c.in-Ok.is c.set_counts.ensures).ok c.set_head.ensures

pub returns-in-Err : goal.returns-in-Err
returns-in-Err g c =
    refused_at_once (at g.X.Six c.args.six.now) (at g.X.Six c.set_counts.new.six) (InTurn SetsCount c.as_slice.result.now) (SetsRest c.args.batch.now) c.in-Err.fault (subst (Makes (InTurn SetsCount c.as_slice.result.now) (at g.X.Six c.args.six.now) (at g.X.Six c.set_counts.new.six)) c.in-Err.is c.set_counts.ensures)
