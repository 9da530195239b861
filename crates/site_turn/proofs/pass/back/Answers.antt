use Rattle.std.proofs.Common.{◌∙◌, ap, [], ◌∷◌}
use Rattle.site_table.specs.Kinds.{counts_of}
use Rattle.site_table.specs.Views.{part_of, pass_at, out_at}
use Rattle.site_turn.proofs.Going.{out_counted, back_is}
use Rattle.site_turn.proofs.Seats.{back_own}
use Rattle.site_turn.proofs.pass.back.Goals as goal

pub count_deed-requires-clause-out : goal.count_deed-requires-clause-out
count_deed-requires-clause-out g c = out_counted (counts_of c.args.deed) c.args.seat.me c.args.hall c.requires.out

pub returns-clause-back : goal.returns-clause-back
returns-clause-back g c = c.into_badge.ensures.2 ∙ ap (λ m. m.0 ∷ []) (back_is (counts_of c.args.deed) c.args.seat.me _ c.args.hall c.requires.out c.count_deed.ensures.back)

pub returns-clause-own : goal.returns-clause-own
returns-clause-own g c = back_own (counts_of c.args.deed) (out_at c.args.seat.me) (part_of c.args.hall) (pass_at c.args.seat.me) _ (returns-clause-back g c) c.count_deed.ensures.knows
