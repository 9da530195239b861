use Rattle.std.proofs.Common.{◌∙◌, ap}
use Rattle.std.specs.List.{filter}
use Rattle.std.specs.Ordering.{is_eq, nat_cmp}
use Rattle.row_keys.specs.declared.rank.CommentKey.{CommentKey}
use Rattle.content_state.proofs.CommentsPlaced.{placed_on}
use Rattle.content_state.proofs.state.State.comment_keys.Goals as goal

pub returns : goal.returns
returns c = c.within.ensures ∙ ap (filter (λ (k : CommentKey). is_eq (nat_cmp c.args.nid k.node))) c.indexes.ensures.comments ∙ placed_on c.args.nid c.args.self.now.rows c.stands_in_order.ensures.rows
