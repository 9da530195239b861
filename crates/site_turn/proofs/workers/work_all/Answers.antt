use Rattle.std.proofs.Common.{subst}
use Rattle.std.specs.Prelude.{slice_index_or}
use Rattle.std.proofs.Crossing as heap
use Rattle.site_turn.proofs.Crossing.{room_sync}
use Rattle.site_turn.specs.Working.{HasWorked}
use Rattle.site_turn.proofs.Working.{zipped}
use Rattle.site_turn.proofs.workers.work_all.Goals as goal

pub for_each_mut-requires-sync-F : goal.for_each_mut-requires-sync-F
for_each_mut-requires-sync-F g c κs within =
    let sync = c.type_bounds.sync-R in
    let room = room_sync _ g.K.Keeper c.type_bounds.send-K in
    record { shared = λ x b o κ. ((((λ q. tt), sync.shared x.0.now x.0.ref_ptr.0 x.0.ref_ptr.1 _), (((λ q. tt), heap.sync.shared x.1.now x.1.ref_ptr.0 x.1.ref_ptr.1 κ), (((λ q. tt), room.shared x.2.now x.2.ref_ptr.0 x.2.ref_ptr.1 _), tt))), (λ q. tt)) }

pub returns-clause-worked : goal.returns-clause-worked
returns-clause-worked g c =
    let does = g.W.Work.does in
    let old = c.args.workers.now in
    let new = c.for_each_mut.new.s in
    zipped (HasWorked does) old new c.for_each_mut.auto.s (λ i d below.
    let e = (c.for_each_mut.ensures i d below).1 in
    subst (λ w. HasWorked does (slice_index_or old i d) w) e.left (subst (λ w. HasWorked does w e.after_call.now) e.argument_is e.call))
