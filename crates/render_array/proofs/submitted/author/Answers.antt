use Rattle.std.proofs.Common.{eq-eqb}
use Rattle.std.proofs.lemmas.Bool.{ne_eqb}
use Rattle.render_array.specs.Nodes.{author}
use Rattle.render_array.specs.Pieces as pieces
use Rattle.render_canvas.proofs.Run.{next, if_true, if_false}
use Rattle.render_array.proofs.submitted.author.Goals as goal

pub returns-then-uid-eq0 : goal.returns-then-uid-eq0
unfolding author pieces.anonymous_name
returns-then-uid-eq0 c = if_true _ (eq-eqb c.args.uid 0 c.if-uid-eq0.true) c.write.ensures

pub returns-in-Some : goal.returns-in-Some
unfolding author
returns-in-Some c = if_false _ (ne_eqb c.args.uid 0 c.if-uid-eq0.false) (next _ c.in-Some.ensures.shows c.author_found.ensures)

pub returns-in-None : goal.returns-in-None
unfolding author pieces.anonymous_name
returns-in-None c = if_false _ (ne_eqb c.args.uid 0 c.if-uid-eq0.false) (next _ c.in-None.ensures.shows c.write-in-None.ensures)
