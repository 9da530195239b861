use Rattle.std.proofs.Common.{◌∙◌, ap, subst, slice_set}
use Rattle.bucket_map.specs.Buckets.{StandsAt, GoesTo}
use Rattle.bucket_map.proofs.Search.{put_over, put_between}
use Rattle.std.specs.List.{insert}
use Rattle.std.proofs.Common.{sym}
use Rattle.bucket_map.proofs.bucket.put_here.Goals as goal

pub returns-in-Ok-clause-ok : goal.returns-in-Ok-clause-ok
returns-in-Ok-clause-ok g c =
    let R = g.K.Ord.cmp in
    let es = c.args.entries.now.items in
    let k = c.args.key.now in
    let i = c.in-Ok.at in
    ap (λ e. slice_set es i e) c.in_ok-new.ensures.same
    ∙ put_over R g.met.K.Ord.total g.met.K.Placed.exact es k i c.args.value.now (subst (λ l. StandsAt R l k i) c.as_slice.ensures.value c.in-Ok.ensures.found)

pub returns-in_ok-insert-in-Err-clause-ok : goal.returns-in_ok-insert-in-Err-clause-ok
returns-in_ok-insert-in-Err-clause-ok g c =
    let R = g.K.Ord.cmp in
    let es = c.args.entries.now.items in
    let k = c.args.key.now in
    let i = c.in-Err.at in
    c.in_ok-insert-in-Err.ensures.items
    ∙ ap (λ l. insert l i c.in_ok-new.new) c.reserve_exact.ensures.items
    ∙ ap (λ e. insert es i e) c.in_ok-new.ensures.same
    ∙ sym (put_between R g.met.K.Ord.total g.met.K.Placed.exact es k i c.args.value.now (subst (λ l. GoesTo R l k i) c.as_slice.ensures.value c.in-Err.ensures.absent))
