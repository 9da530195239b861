use Rattle.std.proofs.Common.{arith}
use Rattle.turn_laws.proofs.Taking.{doors_marked}
use Rattle.site_table.specs.Views.{noted_in, desk_in}
use Rattle.site_table.proofs.turns.mark_desk.Goals as goal

pub compare_exchange-found-requires : goal.compare_exchange-found-requires
compare_exchange-found-requires g c =
    let room = c.requires.room in
    let words = room.1.0 in (room.0, omega arith, doors_marked noted_in desk_in _ _ _ room.1.1 c.requires.note)
