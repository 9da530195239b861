use Rattle.site_commands.specs.declared.answer.Answer.TheVariants as answer
use Rattle.site_rehearsal.proofs.Leaving.{on_newest, seat_goes, seat_with, answer_goes}
use Rattle.site_rehearsal.proofs.acting.commit.Goals as goal

pub returns-in_ok-newest-in-Done-clause-seat : goal.returns-in_ok-newest-in-Done-clause-seat
returns-in_ok-newest-in-Done-clause-seat g c =
    let goes = answer_goes (answer.Done c.in-Done.done c.in-Done.number) c.args.hall.now c.commit.new.self _ _ _ _ _ tt c.requires.sure c.in-Done.ensures.steadfast c.in-Done.ensures.answers in
    seat_with _ _ _ c.args.seat.now _ c.seat.view_is (on_newest c.commit.new.self c.args.seat.now _ c.in-Done.ensures.is_hall c.in_ok-newest-in-Done.ensures (seat_goes c.args.hall.now c.commit.new.self c.args.seat.now goes c.requires.seat))

pub returns-in-Refused-clause-seat : goal.returns-in-Refused-clause-seat
returns-in-Refused-clause-seat g c =
    let goes = answer_goes (answer.Refused c.in-Refused.refusal c.in-Refused.number) c.args.hall.now c.commit.new.self _ _ _ _ _ tt c.requires.sure c.in-Refused.ensures.steadfast c.in-Refused.ensures.answers in
    seat_goes c.args.hall.now c.commit.new.self c.args.seat.now goes c.requires.seat

pub returns-in_ok-newest-in-Done-clause-goes : goal.returns-in_ok-newest-in-Done-clause-goes
returns-in_ok-newest-in-Done-clause-goes g c =
    answer_goes (answer.Done c.in-Done.done c.in-Done.number) c.args.hall.now c.commit.new.self _ _ _ _ _ tt c.requires.sure c.in-Done.ensures.steadfast c.in-Done.ensures.answers
