use Rattle.valid_edits.proofs.Kept.{removals_kept}
use Rattle.valid_edits.proofs.laws.removals_keep_valid.Goals as goal

pub returns : goal.returns
returns c = removals_kept
