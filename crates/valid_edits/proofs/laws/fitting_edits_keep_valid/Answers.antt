use Rattle.valid_edits.proofs.Kept.{kept_valid}
use Rattle.valid_edits.proofs.laws.fitting_edits_keep_valid.Goals as goal

pub returns : goal.returns
returns c = kept_valid
