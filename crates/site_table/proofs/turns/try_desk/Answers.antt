use Rattle.std.proofs.Common.{arith}
use Rattle.turn_laws.proofs.Taking.{desks_out}
use Rattle.site_table.specs.Views.{noted_in, desk_in}
use Rattle.site_table.proofs.turns.try_desk.Goals as goal

pub compare_exchange-requires : goal.compare_exchange-requires
compare_exchange-requires g c =
    let room = c.requires.room in
    let words = room.1.0 in (room.0, omega arith, desks_out noted_in desk_in _ _ _ _ room.1.1 c.requires.gate c.requires.note)
