use Rattle.body_kinds.proofs.ComesBack.{user_patch_back}
use Rattle.body_kinds.proofs.laws.user_patches_come_back.Goals as goal

pub returns : goal.returns
returns c = user_patch_back
