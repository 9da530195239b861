use Rattle.body_kinds.proofs.ComesBack.{node_patch_back}
use Rattle.body_kinds.proofs.laws.node_patches_come_back.Goals as goal

pub returns : goal.returns
returns c = node_patch_back
