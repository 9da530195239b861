use Rattle.std.proofs.Common.{◌∙◌, ◌≤◌, ℕ, ap, sym, subst, arith}
use Rattle.std.specs.Option.{option_copied}
use Rattle.site_commands.specs.declared.answer.Done.{Done}
use Rattle.site_commands.specs.declared.answer.Answer.{Answer}
use Rattle.site_keeper.specs.declared.fault.KeeperFault.{KeeperFault}
use Rattle.site_house.specs.House.{Moves, Accepts, Fails, Answers, up}
use Rattle.site_hall.specs.Alone.{AloneView, house_of, IsAlone}
use Rattle.site_hall.specs.Hall.{number_of}
use Rattle.site_hall.specs.Handed.{handed_in, LeavesHanded}
use Rattle.site_hall.specs.Ready.{Stops, published}
use Rattle.site_hall.specs.ReadyEdit.{Ready}
use Rattle.site_hall.specs.declared.stop.Stop.{Stop}
use Rattle.site_hall.proofs.Callers.{alone_own, settled_alone, starved_alone, settled_moves, starved_moves, accepted_moves, accepted_answers, failed_moves, failed_answers, steadfast_on, valid_seen, with_hall}
use Rattle.site_hall.proofs.alone.AloneHouse.commit.Goals as goal

-- ---- once what was pending is settled

pub invariant_of-self : goal.invariant_of-self
invariant_of-self g c =
    let a : AloneView = record { hall = c.self.inside.hall; opened = c.self.inside.opened; handed = c.self.inside.handed.items; keepers = c.self.inside.keepers; unkept = c.self.inside.unkept } in
    settled_alone a c.prepare.new.self c.self.invariant c.in-Ok.ensures.ready.settles c.prepare.ensures.is_hall

-- ---- the edit is accepted

pub returns-in-Ok-hand_in-clause-moves : goal.returns-in-Ok-hand_in-clause-moves
returns-in-Ok-hand_in-clause-moves g c =
    let a : AloneView = record { hall = c.self.inside.hall; opened = c.self.inside.opened; handed = c.self.inside.handed.items; keepers = c.self.inside.keepers; unkept = c.self.inside.unkept } in
    subst (λ (new : AloneView). Moves (house_of c.args.self.now) (house_of new)) (sym c.in-Ok-hand_in.ensures.published)
    (subst (λ (old : AloneView). Moves (house_of old) (house_of (handed_in a (published c.prepare.new.self c.in-Ok.ready.batch) c.in-Ok.ready.batch.commit))) c.self.view_is
    (accepted_moves a c.prepare.new.self c.args.ask.now (option_copied c.args.csrf) c.args.command.now c.args.now c.in-Ok.ready c.in-Ok.ensures.ready (subst IsAlone c.in-Ok-hand_in.ensures.published c.hand_in.ensures.is_alone)))

pub returns-in-Ok-hand_in-clause-answers : goal.returns-in-Ok-hand_in-clause-answers
returns-in-Ok-hand_in-clause-answers g c =
    let a : AloneView = record { hall = c.self.inside.hall; opened = c.self.inside.opened; handed = c.self.inside.handed.items; keepers = c.self.inside.keepers; unkept = c.self.inside.unkept } in
    let number = c.number.ensures ∙ ap (λ (v : AloneView). number_of v.hall) (c.self-in-Ok-hand_in.view_is ∙ c.in-Ok-hand_in.ensures.published) in
    let new = handed_in a (published c.prepare.new.self c.in-Ok.ready.batch) c.in-Ok.ready.batch.commit in
    let done = ap (λ (r : Ready). r.done) c.ready.view_is in
    let accepts = accepted_answers a c.prepare.new.self c.args.ask.now (option_copied c.args.csrf) c.args.command.now c.args.now c.in-Ok.ready c.in-Ok.ensures.ready in
    let at_done = subst (λ (d : Done). Accepts (house_of a) (house_of new) c.args.ask.now (option_copied c.args.csrf) c.args.command.now c.args.now d (number_of new.hall)) (sym done) accepts in
    let at_number = subst (λ (n : ℕ). Accepts (house_of a) (house_of new) c.args.ask.now (option_copied c.args.csrf) c.args.command.now c.args.now c.ready.inside.done n) (sym number) at_done in
    let at_new = subst (λ (v : AloneView). Accepts (house_of a) (house_of v) c.args.ask.now (option_copied c.args.csrf) c.args.command.now c.args.now c.ready.inside.done c.number.result) (sym c.in-Ok-hand_in.ensures.published) at_number in
    subst (λ (old : AloneView). Accepts (house_of old) (house_of c.hand_in.new.self) c.args.ask.now (option_copied c.args.csrf) c.args.command.now c.args.now c.ready.inside.done c.number.result) c.self.view_is at_new

-- ---- the keeper failed to keep it

pub returns-in-Failed-clause-moves : goal.returns-in-Failed-clause-moves
returns-in-Failed-clause-moves g c =
    let a : AloneView = record { hall = c.self.inside.hall; opened = c.self.inside.opened; handed = c.self.inside.handed.items; keepers = c.self.inside.keepers; unkept = c.self.inside.unkept } in
    let leaves = subst (λ (fault : KeeperFault). LeavesHanded fault (with_hall a c.prepare.new.self) c.in-Ok.ready.batch c.hand_in.new.self) c.in-Failed.is c.in-Err-hand_in.ensures.leaves in
    let new = c.hand_in.new.self.hall in
    let counted = c.keeper_failed.ensures.counted ∙ ap (λ (v : AloneView). record v { keepers = up v.keepers }) leaves.1 in
    let first = c.prepare.ensures.never_falls in
    let then = c.hand_in.ensures.never_falls in
    let never_falls : a.hall.faults ≤ new.faults = omega arith in
    subst (λ (v : AloneView). Moves (house_of c.args.self.now) (house_of v)) (sym counted)
    (subst (λ (old : AloneView). Moves (house_of old) (house_of (record (handed_in a new c.in-Ok.ready.batch.commit) { keepers = up a.keepers }))) c.self.view_is
    (failed_moves a c.prepare.new.self c.args.ask.now (option_copied c.args.csrf) c.args.command.now c.args.now c.in-Ok.ready c.in-Ok.ensures.ready new leaves.0 (subst IsAlone counted c.keeper_failed.ensures.is_alone) never_falls (steadfast_on c.prepare.ensures.steadfast c.hand_in.ensures.steadfast)))

pub returns-in-Failed-clause-answers : goal.returns-in-Failed-clause-answers
returns-in-Failed-clause-answers g c =
    let a : AloneView = record { hall = c.self.inside.hall; opened = c.self.inside.opened; handed = c.self.inside.handed.items; keepers = c.self.inside.keepers; unkept = c.self.inside.unkept } in
    let leaves = subst (λ (fault : KeeperFault). LeavesHanded fault (with_hall a c.prepare.new.self) c.in-Ok.ready.batch c.hand_in.new.self) c.in-Failed.is c.in-Err-hand_in.ensures.leaves in
    let new = c.hand_in.new.self.hall in
    let counted = c.keeper_failed.ensures.counted ∙ ap (λ (v : AloneView). record v { keepers = up v.keepers }) leaves.1 in
    let fails = failed_answers a c.prepare.new.self c.args.ask.now (option_copied c.args.csrf) c.args.command.now c.args.now c.in-Ok.ready c.in-Ok.ensures.ready new leaves.0 in
    let at_new = subst (λ (v : AloneView). Fails (house_of a) (house_of v) c.args.ask.now (option_copied c.args.csrf) c.args.command.now c.args.now) (sym counted) fails in
    let at_old = subst (λ (old : AloneView). Fails (house_of old) (house_of c.keeper_failed.new.self) c.args.ask.now (option_copied c.args.csrf) c.args.command.now c.args.now) c.self.view_is at_new in
    subst (λ (answer : Answer). Answers answer (house_of c.args.self.now) (house_of c.keeper_failed.new.self) c.args.ask.now (option_copied c.args.csrf) c.args.command.now c.args.now) (sym c.keeper_failed.ensures.answer) at_old

-- ---- memory was wanting at that

pub returns-in-OutOfMemory-clause-moves : goal.returns-in-OutOfMemory-clause-moves
returns-in-OutOfMemory-clause-moves g c =
    let a : AloneView = record { hall = c.self.inside.hall; opened = c.self.inside.opened; handed = c.self.inside.handed.items; keepers = c.self.inside.keepers; unkept = c.self.inside.unkept } in
    let same = subst (λ (fault : KeeperFault). LeavesHanded fault (with_hall a c.prepare.new.self) c.in-Ok.ready.batch c.hand_in.new.self) c.in-OutOfMemory.is c.in-Err-hand_in.ensures.leaves in
    subst (λ (v : AloneView). Moves (house_of c.args.self.now) (house_of v)) (sym same)
    (subst (λ (v : AloneView). Moves (house_of v) (house_of (with_hall a c.prepare.new.self))) c.self.view_is
    (settled_moves a c.prepare.new.self (subst IsAlone same c.hand_in.ensures.is_alone) c.in-Ok.ensures.ready.settles))

-- ---- the edit is refused

pub invariant_of-self-in-Refused : goal.invariant_of-self-in-Refused
invariant_of-self-in-Refused g c =
    let a : AloneView = record { hall = c.self.inside.hall; opened = c.self.inside.opened; handed = c.self.inside.handed.items; keepers = c.self.inside.keepers; unkept = c.self.inside.unkept } in
    let stops = subst (λ (s : Stop). Stops s a.hall c.prepare.new.self c.args.ask.now (option_copied c.args.csrf) c.args.command.now c.args.now 0) c.in-Refused.is c.in-Err.ensures.stops in
    settled_alone a c.prepare.new.self c.self.invariant stops.0 c.prepare.ensures.is_hall

pub returns-in-Refused-clause-moves : goal.returns-in-Refused-clause-moves
returns-in-Refused-clause-moves g c =
    let a : AloneView = record { hall = c.self.inside.hall; opened = c.self.inside.opened; handed = c.self.inside.handed.items; keepers = c.self.inside.keepers; unkept = c.self.inside.unkept } in
    let stops = subst (λ (s : Stop). Stops s a.hall c.prepare.new.self c.args.ask.now (option_copied c.args.csrf) c.args.command.now c.args.now 0) c.in-Refused.is c.in-Err.ensures.stops in
    subst (λ (v : AloneView). Moves (house_of v) (house_of (with_hall a c.prepare.new.self))) c.self.view_is
    (settled_moves a c.prepare.new.self (invariant_of-self-in-Refused g c) stops.0)

-- ---- the keeper failed to tell its number

pub returns-in-Failed-stop-clause-valid : goal.returns-in-Failed-stop-clause-valid
returns-in-Failed-stop-clause-valid g c = valid_seen c.keeper_failed-in-Failed-stop.new.self.hall c.keeper_failed-in-Failed-stop.ensures.is_alone.is_hall

-- ---- memory was wanting

pub invariant_of-self-in-OutOfMemory-stop : goal.invariant_of-self-in-OutOfMemory-stop
invariant_of-self-in-OutOfMemory-stop g c =
    let a : AloneView = record { hall = c.self.inside.hall; opened = c.self.inside.opened; handed = c.self.inside.handed.items; keepers = c.self.inside.keepers; unkept = c.self.inside.unkept } in
    let stops = subst (λ (s : Stop). Stops s a.hall c.prepare.new.self c.args.ask.now (option_copied c.args.csrf) c.args.command.now c.args.now 0) c.in-OutOfMemory-stop.is c.in-Err.ensures.stops in
    starved_alone a c.prepare.new.self c.self.invariant c.prepare.ensures.is_hall stops

pub returns-in-OutOfMemory-stop-clause-moves : goal.returns-in-OutOfMemory-stop-clause-moves
returns-in-OutOfMemory-stop-clause-moves g c =
    let a : AloneView = record { hall = c.self.inside.hall; opened = c.self.inside.opened; handed = c.self.inside.handed.items; keepers = c.self.inside.keepers; unkept = c.self.inside.unkept } in
    let stops = subst (λ (s : Stop). Stops s a.hall c.prepare.new.self c.args.ask.now (option_copied c.args.csrf) c.args.command.now c.args.now 0) c.in-OutOfMemory-stop.is c.in-Err.ensures.stops in
    subst (λ (v : AloneView). Moves (house_of v) (house_of (with_hall a c.prepare.new.self))) c.self.view_is
    (starved_moves a c.prepare.new.self (invariant_of-self-in-OutOfMemory-stop g c) stops)

pub returns-in-OutOfMemory-stop-clause-valid : goal.returns-in-OutOfMemory-stop-clause-valid
returns-in-OutOfMemory-stop-clause-valid g c = valid_seen c.prepare.new.self c.prepare.ensures.is_hall

-- ---- its own edits, whatever the answer

pub returns-in-Ok-hand_in-clause-own : goal.returns-in-Ok-hand_in-clause-own
returns-in-Ok-hand_in-clause-own g c = (returns-in-Ok-hand_in-clause-moves g c).own (alone_own c.args.self.now (subst IsAlone c.self.view_is c.self.invariant))

pub returns-in-Failed-clause-own : goal.returns-in-Failed-clause-own
returns-in-Failed-clause-own g c = (returns-in-Failed-clause-moves g c).own (alone_own c.args.self.now (subst IsAlone c.self.view_is c.self.invariant))

pub returns-in-OutOfMemory-clause-own : goal.returns-in-OutOfMemory-clause-own
returns-in-OutOfMemory-clause-own g c = (returns-in-OutOfMemory-clause-moves g c).own (alone_own c.args.self.now (subst IsAlone c.self.view_is c.self.invariant))

pub returns-in-Refused-clause-own : goal.returns-in-Refused-clause-own
returns-in-Refused-clause-own g c = (returns-in-Refused-clause-moves g c).own (alone_own c.args.self.now (subst IsAlone c.self.view_is c.self.invariant))

pub returns-in-OutOfMemory-stop-clause-own : goal.returns-in-OutOfMemory-stop-clause-own
returns-in-OutOfMemory-stop-clause-own g c = (returns-in-OutOfMemory-stop-clause-moves g c).own (alone_own c.args.self.now (subst IsAlone c.self.view_is c.self.invariant))

pub returns-in-Failed-stop-clause-own : goal.returns-in-Failed-stop-clause-own
returns-in-Failed-stop-clause-own g c = alone_own c.keeper_failed-in-Failed-stop.new.self c.keeper_failed-in-Failed-stop.ensures.is_alone
