use Rattle.std.proofs.lemmas.Bool.{eq-eqb, ne_eqb}
use Rattle.render_array.specs.Blocks.{greeting_body}
use Rattle.render_array.specs.Pieces as pieces
use Rattle.render_canvas.proofs.Run.{next, if_true, if_false}
use Rattle.render_array.proofs.blocks.greeting_body.Goals as goal

pub returns-then-uid-eq0 : goal.returns-then-uid-eq0
unfolding greeting_body pieces.login_link
returns-then-uid-eq0 c = next _ c.viewer-uid.ensures (if_true _ (eq-eqb _ _ c.if-uid-eq0.true) c.write.ensures)

pub returns-else-uid-eq0 : goal.returns-else-uid-eq0
unfolding greeting_body
returns-else-uid-eq0 c = next _ c.viewer-uid.ensures (if_false _ (ne_eqb _ _ c.if-uid-eq0.false) c.hello.ensures)
