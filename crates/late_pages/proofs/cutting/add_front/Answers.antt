use Rattle.std.proofs.Common.{ap, length, ◌++◌, ◌∙◌}
use Rattle.std.specs.Arc.{arc_value}
use Rattle.late_pages.proofs.Cuts.{all_of_piece}
use Rattle.late_pages.proofs.cutting.add_front.Goals as goal

pub returns-then-length-left : goal.returns-then-length-left
returns-then-length-left c =
    all_of_piece c.args.front.now c.push.new.self (arc_value c.args.piece.now) c.args.left c.len-length.result (c.len-length.ensures ∙ ap length c.deref.ensures)
    (c.in_ok-push.ensures.ok ∙ ap (λ bs. c.args.front.now ++ bs) c.in_ok-try_clone.ensures) c.if-length-left.true
