use Rattle.body_kinds.proofs.CommentsRight.{comment_patch_back}
use Rattle.body_kinds.proofs.laws.comment_patches_come_back.Goals as goal

pub returns : goal.returns
returns c = comment_patch_back
