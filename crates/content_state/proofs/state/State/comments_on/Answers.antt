use Rattle.std.proofs.Common.{ℕ, ◌∙◌, ◌++◌, List, Some, None, ap, sym, append-nil, map}
use Rattle.std.specs.Option.{option_copied}
use Rattle.content_rows.specs.declared.row.Comment.{Comment}
use Rattle.indexed_rows.specs.Rows.{comments_on}
use Rattle.content_state.specs.Comments.{shown_comment}
use Rattle.content_state.proofs.CommentsPlaced.{all_by, found_on, one_more}
use Rattle.content_state.proofs.state.State.comments_on.Goals as goal

pub keys-init : goal.keys-init
keys-init c =
    ap (λ es. map shown_comment es ++ all_by c.args.self.now.rows c.into_iter-key-iterator.result) c.new-found.ensures.items
    ∙ ap (all_by c.args.self.now.rows) (c.into_iter-key-iterator.ensures.into_iter_gives ∙ c.comment_keys-key-items.ensures)
    ∙ found_on c.args.self.now.rows c.args.nid c.stands_in_order.ensures.rows

pub keys-preserved-in-Continue-1 : goal.keys-preserved-in-Continue-1
keys-preserved-in-Continue-1 c =
    let rows = c.args.self.now.rows in
    let so_far : List (ℕ × Comment) = map shown_comment c.keys.found.items in
    ap (λ (es : List (ℕ × Comment)). es ++ all_by rows c.next.new.self) c.in_ok-push.ensures
    ∙ one_more rows c.in-Some.key.now (Some c.in-Some-0₀.comment.now) so_far (comments_on rows c.args.nid) c.keys.key-iterator c.next.new.self
    (ap option_copied (sym c.in-Some-0₀.is) ∙ c.comment.ensures.row) c.in-Some.ensures.steps c.keys.invariant

pub keys-preserved : goal.keys-preserved
keys-preserved c =
    let rows = c.args.self.now.rows in
    let so_far : List (ℕ × Comment) = map shown_comment c.keys.found.items in
    ap (λ (es : List (ℕ × Comment)). es ++ all_by rows c.next.new.self) (sym (append-nil so_far))
    ∙ one_more rows c.in-Some.key.now None so_far (comments_on rows c.args.nid) c.keys.key-iterator c.next.new.self
    (ap option_copied (sym c.in_default.is) ∙ c.comment.ensures.row) c.in-Some.ensures.steps c.keys.invariant

pub returns : goal.returns
returns c =
    let rows = c.args.self.now.rows in
    sym (append-nil (map shown_comment c.keys.found.items))
    ∙ ap (λ ks. map shown_comment c.keys.found.items ++ all_by rows ks) (sym c.in-None.ensures.steps.0)
    ∙ c.keys.invariant
