use Rattle.std.proofs.Common.{refl, ap}
use Rattle.render_canvas.specs.Board.{pieces_of}
use Rattle.render_array.specs.declared.element.Element.TheVariants as element
use Rattle.render_array.specs.Built.{plan_of}
use Rattle.site_rehearsal.specs.Visitors.{visit}
use Rattle.renderer.proofs.Joining.{whole_of}
use Rattle.site_rehearsal.specs.Framing.{in_frame, count_in_frame}
use Rattle.site_rehearsal.proofs.Builds.{whole_makes, whole_exact}
use Rattle.site_rehearsal.proofs.framing.frame.Goals as goal

pub returns-clause-makes : goal.returns-clause-makes
returns-clause-makes c =
    let r = c.args.visitor.now in
    whole_makes (whole_of in_frame (count_in_frame (visit r)) (visit r) (plan_of r.ask.now.path element.Page) c.in_ok-segments.field-0 _ _ c.in_ok-segments.ensures
    (ap pieces_of c.new.ensures) c.into_vec.ensures refl refl refl refl (rw c.parts.ensures at c.in_ok-add_all.ensures))

pub returns-clause-exact : goal.returns-clause-exact
returns-clause-exact c =
    let r = c.args.visitor.now in
    whole_exact (whole_of in_frame (count_in_frame (visit r)) (visit r) (plan_of r.ask.now.path element.Page) c.in_ok-segments.field-0 _ c.add_all.new.frame c.in_ok-segments.ensures
    (ap pieces_of c.new.ensures) c.into_vec.ensures refl refl refl refl (rw c.parts.ensures at c.in_ok-add_all.ensures))
