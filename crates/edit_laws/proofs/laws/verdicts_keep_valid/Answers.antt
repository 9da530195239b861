use Rattle.edit_laws.proofs.AllEdits.{verdicts_keep}
use Rattle.edit_laws.proofs.laws.verdicts_keep_valid.Goals as goal

pub returns : goal.returns
returns c = verdicts_keep
