use Rattle.body_kinds.proofs.ComesBack.{term_patch_back}
use Rattle.body_kinds.proofs.laws.term_patches_come_back.Goals as goal

pub returns : goal.returns
returns c = term_patch_back
