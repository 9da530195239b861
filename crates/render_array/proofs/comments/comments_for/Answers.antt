use Rattle.std.proofs.Common.{◌≡◌, ◌∙◌, ℕ, List, sym, subst, map, Bor}
use Rattle.content_rows.specs.declared.row.Comment.{Comment}
use Rattle.content_state.specs.Comments.{shown_comment}
use Rattle.site_comments.specs.declared.reader.CommentReader.{CommentReader}
use Rattle.render_canvas.specs.Canvas.{Sheet, Renders}
use Rattle.render_canvas.proofs.Run.{next, done, if_true, if_false}
use Rattle.render_array.specs.Nodes.{comments_shown, comments_for}
use Rattle.render_array.proofs.comments.comments_for.Goals as goal

-- what is shown of a list is shown of the same list
shown_by : (reader : CommentReader) {xs ys : List (ℕ × Bor Comment)} {old new : Sheet} → Renders (comments_shown reader (map shown_comment xs)) old tt new → xs ≡ ys → Renders (comments_shown reader (map shown_comment ys)) old tt new
shown_by reader {old = old} {new = new} run e = subst (λ l. Renders (comments_shown reader (map shown_comment l)) old tt new) e run

pub returns-then-reads_some : goal.returns-then-reads_some
unfolding comments_for
returns-then-reads_some c =
    if_true _ (sym c.reads_some.ensures ∙ c.if-reads_some.true)
    (next _ c.comments_on-all.ensures (shown_by _ c.comments_shown.ensures c.as_slice.ensures.value))

pub returns-else-reads_some : goal.returns-else-reads_some
unfolding comments_for
returns-else-reads_some c = if_false _ (sym c.reads_some.ensures ∙ c.if-reads_some.false) done
