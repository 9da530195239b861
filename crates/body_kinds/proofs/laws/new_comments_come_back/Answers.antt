use Rattle.body_kinds.proofs.CommentsRight.{new_comment_back}
use Rattle.body_kinds.proofs.laws.new_comments_come_back.Goals as goal

pub returns : goal.returns
returns c = new_comment_back
