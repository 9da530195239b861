use Rattle.site_turn.proofs.Houses.{looks_own, guest_looks}
use Rattle.site_turn.proofs.guest.GuestHouse.keep.Goals as goal

pub returns-clause-moves : goal.returns-clause-moves
returns-clause-moves g c =
    let self = c.args.self.now in
    guest_looks _ _ self.pass.now c.keep-answer.new.self self.pass.ghost_name self.keepers self.unkept c.unkept_after-self.result c.keep-answer.ensures.same c.unkept_after-self.ensures.grows c.keep-answer.ensures.looks

pub returns-clause-own : goal.returns-clause-own
returns-clause-own g c = looks_own _ _ _ _ c.keep-answer.ensures.looks
