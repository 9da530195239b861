use Rattle.std.proofs.Common.{refl, arith}
use Rattle.std.specs.Prelude.{Some, None}
use Rattle.turn_laws.proofs.Taking.{desks_back}
use Rattle.turn_rule.specs.Steps.{with_desk}
use Rattle.site_table.specs.Views.{noted_in, desk_in, desk_note}
use Rattle.site_table.proofs.turns.open_door.Goals as goal

pub swap-gate-requires : goal.swap-gate-requires
swap-gate-requires g c =
    let room = c.requires.room in
    let words = room.1.0 in
    let b = c.requires.back in (
      room.0,
      omega arith,
      desks_back noted_in desk_in _ _ _ (with_desk (Some b.part) b.note) (None, Some b.desk) b.others (desk_note b.desk) b.part room.1.1 b.me_is b.old refl refl b.stands,
    )
