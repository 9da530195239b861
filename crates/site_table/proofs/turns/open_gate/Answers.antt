use Rattle.std.proofs.Common.{refl, arith}
use Rattle.turn_laws.proofs.Taking.{halls_back}
use Rattle.turn_rule.specs.Steps.{with_hall}
use Rattle.std.specs.Prelude.{Some, None}
use Rattle.site_table.specs.Views.{noted_in, desk_in, part_of}
use Rattle.site_table.proofs.turns.open_gate.Goals as goal

pub swap-gate-requires : goal.swap-gate-requires
swap-gate-requires g c =
    let room = c.requires.room in
    let words = room.1.0 in
    let b = c.requires.back in (
      room.0,
      omega arith,
      halls_back noted_in desk_in _ _ _ (with_hall (Some (part_of b.hall)) b.note) (Some b.hall, None) b.others (part_of b.hall) room.1.1 b.me_is b.old refl refl,
    )
