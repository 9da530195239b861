use Rattle.std.proofs.Common.{refl, sym}
use Rattle.edit_bodies.specs.Bodies.{sent_of}
use Rattle.site_house.proofs.Moving.{moves_same}
use Rattle.site_http.specs.Called.{Wish}
use Rattle.site_http.proofs.Made.{accepted_made, refused_made, failed_made, starved_made, unmade}
use Rattle.site_http.proofs.answer.edited.Goals as goal

pub returns-in_default-clause-committed : goal.returns-in_default-clause-committed
returns-in_default-clause-committed g c =
    let wish : Wish = record { edit = c.args.edit.now; sent = sent_of c.args.body.now; csrf = c.args.csrf.now } in
    unmade wish c.args.ask.now c.args.words c.args.now c.args.closing _ c.requires.moment c.requires.drawn (moves_same (g.H.House.sees c.args.house.now)) (sym c.memory_text.ensures)

pub returns-in-Done-clause-committed : goal.returns-in-Done-clause-committed
returns-in-Done-clause-committed g c =
    let wish : Wish = record { edit = c.args.edit.now; sent = sent_of c.args.body.now; csrf = c.args.csrf.now } in
    accepted_made wish c.args.ask.now c.args.words _ c.in-Ok.command c.args.now c.args.closing _ c.in-Done.done c.in-Done.number c.requires.moment c.requires.drawn c.sent_value.ensures c.in-Ok.ensures.same c.in-Done.ensures.moves c.in-Done.ensures.keeps_all c.in-Done.ensures.valid c.in-Done.ensures.answers refl

pub returns-in-Ok-refused_text-clause-committed : goal.returns-in-Ok-refused_text-clause-committed
returns-in-Ok-refused_text-clause-committed g c =
    let wish : Wish = record { edit = c.args.edit.now; sent = sent_of c.args.body.now; csrf = c.args.csrf.now } in
    refused_made wish c.args.ask.now c.args.words _ c.in-Ok.command c.args.now c.args.closing _ c.in-Refused.refusal c.in-Refused.number c.requires.moment c.requires.drawn c.sent_value.ensures c.in-Ok.ensures.same c.in-Refused.ensures.moves c.in-Refused.ensures.keeps_all c.in-Refused.ensures.valid c.in-Refused.ensures.answers (sym c.in-Ok-refused_text.ensures.text)

pub returns-in-Refused-clause-committed : goal.returns-in-Refused-clause-committed
returns-in-Refused-clause-committed g c =
    let wish : Wish = record { edit = c.args.edit.now; sent = sent_of c.args.body.now; csrf = c.args.csrf.now } in
    starved_made wish c.args.ask.now c.args.words c.args.now c.args.closing _ c.requires.moment c.requires.drawn c.in-Refused.ensures.moves c.in-Refused.ensures.keeps_all c.in-Refused.ensures.answers.stays (sym c.memory_text-in-Err.ensures)

pub returns-in-Keeper-clause-committed : goal.returns-in-Keeper-clause-committed
returns-in-Keeper-clause-committed g c =
    let wish : Wish = record { edit = c.args.edit.now; sent = sent_of c.args.body.now; csrf = c.args.csrf.now } in
    failed_made wish c.args.ask.now c.args.words _ c.in-Ok.command c.args.now c.args.closing _ c.requires.moment c.requires.drawn c.sent_value.ensures c.in-Ok.ensures.same c.in-Keeper.ensures.moves c.in-Keeper.ensures.keeps_all c.in-Keeper.ensures.valid c.in-Keeper.ensures.answers (sym c.keeper_text.ensures.text)

pub returns-clause-committed : goal.returns-clause-committed
returns-clause-committed g c =
    let wish : Wish = record { edit = c.args.edit.now; sent = sent_of c.args.body.now; csrf = c.args.csrf.now } in
    starved_made wish c.args.ask.now c.args.words c.args.now c.args.closing _ c.requires.moment c.requires.drawn c.in-OutOfMemory.ensures.moves c.in-OutOfMemory.ensures.keeps_all c.in-OutOfMemory.ensures.answers (sym c.memory_text-in-OutOfMemory.ensures)
