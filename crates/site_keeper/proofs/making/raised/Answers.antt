use Rattle.std.proofs.Common.{arith}
use Rattle.site_keeper.proofs.Counting.{has_room}
use Rattle.site_keeper.proofs.making.raised.Goals as goal

pub overflow_add-count : goal.overflow_add-count
overflow_add-count c =
    let room = has_room c.args.counts.now c.args.tags.now c.tags.tag-index c.tag-item.result c.requires c.tags-test.true c.tag-item.is in
    let count = c.count.ensures in
    omega arith
