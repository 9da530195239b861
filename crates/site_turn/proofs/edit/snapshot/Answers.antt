use Rattle.turn_rule.specs.Steps.{zeros, Counts}
use Rattle.site_table.specs.Views.{part_of}
use Rattle.site_turn.proofs.Desks.{one_out, at_looked, hands_looked}
use Rattle.site_turn.proofs.Editing.{still}
use Rattle.site_turn.proofs.edit.snapshot.Goals as goal

pub count_deed-requires-clause-out : goal.count_deed-requires-clause-out
count_deed-requires-clause-out g c =
    let out = c.take_hall-hall in
    one_out c.args.seat.now.me _ out.result c.args.desk.now c.requires.at out.ensures.taken (λ pass old. Counts zeros old (part_of out.result)) (still out.result)

pub returns-in-Ok-clause-at : goal.returns-in-Ok-clause-at
returns-in-Ok-clause-at g c =
    let out = c.take_hall-hall in
    at_looked c.args.seat.now.me _ out.result c.args.desk.now c.requires.at out.ensures.taken _ out.ensures.agrees c.count_deed.ensures.back

pub returns-in-Ok-clause-hands : goal.returns-in-Ok-clause-hands
returns-in-Ok-clause-hands g c =
    let out = c.take_hall-hall in
    hands_looked c.args.seat.now.me _ out.result c.args.desk.now c.requires.at out.ensures.taken _ out.ensures.agrees c.count_deed.ensures.back

pub returns-in-Err-clause-at : goal.returns-in-Err-clause-at
returns-in-Err-clause-at g c =
    let out = c.take_hall-hall in
    at_looked c.args.seat.now.me _ out.result c.args.desk.now c.requires.at out.ensures.taken _ out.ensures.agrees c.count_deed.ensures.back

pub returns-in-Err-clause-hands : goal.returns-in-Err-clause-hands
returns-in-Err-clause-hands g c =
    let out = c.take_hall-hall in
    hands_looked c.args.seat.now.me _ out.result c.args.desk.now c.requires.at out.ensures.taken _ out.ensures.agrees c.count_deed.ensures.back
