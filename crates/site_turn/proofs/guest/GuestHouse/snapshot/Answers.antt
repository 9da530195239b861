use Rattle.std.proofs.Common.{le_refl}
use Rattle.site_turn.proofs.Houses.{looks_valid, looks_own, guest_looks}
use Rattle.site_turn.proofs.guest.GuestHouse.snapshot.Goals as goal

pub returns-clause-moves : goal.returns-clause-moves
returns-clause-moves g c =
    let self = c.args.self.now in
    guest_looks _ _ self.pass.now c.snapshot.new.self self.pass.ghost_name self.keepers self.unkept self.unkept c.snapshot.ensures.same (le_refl self.unkept) c.snapshot.ensures.looks

pub returns-clause-own : goal.returns-clause-own
returns-clause-own g c = looks_own _ _ _ _ c.snapshot.ensures.looks

pub returns-clause-valid : goal.returns-clause-valid
returns-clause-valid g c = looks_valid _ _ _ _ c.snapshot.ensures.looks
