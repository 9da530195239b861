use Rattle.render_array.specs.Nodes.{linked_author}
use Rattle.render_canvas.proofs.Run.{next, if_true, if_false, over_text, escaped_by}
use Rattle.render_array.proofs.submitted.author_found.Goals as goal

pub returns-then-may_view_user : goal.returns-then-may_view_user
returns-then-may_view_user c =
    next _ c.may_view_user.ensures (if_true _ c.if-may_view_user.true (over_text (linked_author c.args.uid) c.linked_author.ensures c.as_slice.ensures))

pub returns-else-may_view_user : goal.returns-else-may_view_user
returns-else-may_view_user c =
    next _ c.may_view_user.ensures (if_false _ c.if-may_view_user.false (escaped_by c.escaped.ensures c.as_slice-else-may_view_user.ensures))
