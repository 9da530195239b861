use Rattle.std.proofs.Common.{◌∙◌, ap}
use Rattle.std.specs.List.{filter}
use Rattle.std.specs.Ordering.{is_eq}
use Rattle.row_keys.specs.declared.rank.CommentKey.{CommentKey}
use Rattle.row_keys.specs.Spans.{beside_part}
use Rattle.content_state.proofs.CommentsPlaced.{placed_before}
use Rattle.content_state.proofs.state.State.comments_before.Goals as goal

pub returns : goal.returns
returns c = c.within.ensures ∙ ap (filter (λ (k : CommentKey). is_eq (beside_part c.args.nid c.args.cid k))) c.indexes.ensures.comments ∙ placed_before c.args.nid c.args.cid c.args.self.now.rows c.stands_in_order.ensures.rows
