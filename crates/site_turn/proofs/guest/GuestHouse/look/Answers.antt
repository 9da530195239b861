use Rattle.std.proofs.Common.{le_refl}
use Rattle.site_turn.proofs.Houses.{looks_own, guest_looks}
use Rattle.site_turn.proofs.guest.GuestHouse.look.Goals as goal

pub returns-clause-moves : goal.returns-clause-moves
returns-clause-moves g c =
    let self = c.args.self.now in
    guest_looks _ _ self.pass.now c.look.new.self self.pass.ghost_name self.keepers self.unkept self.unkept c.look.ensures.same (le_refl self.unkept) c.look.ensures.looks

pub returns-clause-own : goal.returns-clause-own
returns-clause-own g c = looks_own _ _ _ _ c.look.ensures.looks
