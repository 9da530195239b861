use Rattle.std.proofs.Common.{◌≡◌, ◌∙◌, ◌++◌, suc, take, drop, ap, sym}
use Rattle.std.specs.Arc.{arc_value}
use Rattle.html_out.specs.Segment.{joined}
use Rattle.site_late.proofs.Joining.{joined_at, front_in, on_err}
use Rattle.site_late.proofs.pieces.write_parts.Goals as goal

pub returns-in_err-write_whole-clause-front : goal.returns-in_err-write_whole-clause-front
returns-in_err-write_whole-clause-front g c =
    let parts = c.args.parts.now in
    let i = c.loop-part.part-index in
    let piece = c.as_slice.result.now in
    let is : joined parts ≡ joined (take i parts) ++ (piece ++ joined (drop (suc i) parts)) =
    joined_at parts i c.part-item.result c.loop-part-test.true
    ∙ ap (λ p. joined (take i parts) ++ (p ++ joined (drop (suc i) parts))) (ap arc_value (sym c.part-item.is) ∙ sym (c.as_slice.ensures ∙ c.deref.ensures)) in
    on_err c.from_residual.result
    (front_in (g.O.Sink.written c.args.sink.now) (g.O.Sink.written c.loop-part.sink) (g.O.Sink.written c.write_whole.new.sink) (joined parts) (joined (take i parts)) piece (joined (drop (suc i) parts)) is c.loop-part.invariant.told c.in_err-write_whole.ensures.front)
