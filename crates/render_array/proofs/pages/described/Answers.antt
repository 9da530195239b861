use Rattle.std.proofs.Common.{sym, ◌∙◌}
use Rattle.render_array.specs.Page.{described}
use Rattle.render_array.specs.Pieces as pieces
use Rattle.render_canvas.proofs.Run.{next, done, if_true, if_false}
use Rattle.render_array.proofs.pages.described.Goals as goal

pub returns-then-is_empty : goal.returns-then-is_empty
unfolding described
returns-then-is_empty c = if_true _ (sym c.is_empty.ensures ∙ c.if-is_empty.true) done

pub returns : goal.returns
unfolding described pieces.paragraph_start pieces.paragraph_end
returns c =
    if_false _ (sym c.is_empty.ensures ∙ c.if-is_empty.false) (next _ c.write.ensures (next _ c.escaped.ensures c.write-2.ensures))
