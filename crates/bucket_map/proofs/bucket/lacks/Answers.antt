use Rattle.bucket_map.proofs.Search.{length_at, length_between}
use Rattle.bucket_map.proofs.bucket.lacks.Goals as goal

pub returns-in-Ok : goal.returns-in-Ok
returns-in-Ok g c v =
    length_at g.K.Ord.cmp g.met.K.Ord.total g.met.K.Placed.exact c.args.entries.now c.args.key.now c.in-Ok.field-0 v c.in-Ok.ensures.found

pub returns-in-Err : goal.returns-in-Err
returns-in-Err g c v =
    length_between g.K.Ord.cmp g.met.K.Ord.total g.met.K.Placed.exact c.args.entries.now c.args.key.now c.in-Err.field-0 v c.in-Err.ensures.absent
