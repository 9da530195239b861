use Rattle.std.proofs.Common.{refl}
use Rattle.cacheability.specs.declared.context.Context.TheVariants as context
use Rattle.site_lists.specs.Visible.{at_front}
use Rattle.render_canvas.proofs.Run.{done, asked, if_true, if_false}
use Rattle.render_canvas.proofs.Noted.{by_result}
use Rattle.render_canvas.proofs.canvas.Canvas.by_front.Goals as goal

pub returns-then-named : goal.returns-then-named
unfolding at_front
returns-then-named c = by_result (if_true _ c.if-named.true (asked context.IsFront _ _ _ c.context.ensures refl)) refl

pub returns-else-named : goal.returns-else-named
unfolding at_front
returns-else-named c = by_result (if_false _ c.if-named.false done) refl
