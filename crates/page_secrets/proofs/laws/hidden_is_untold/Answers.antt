use Rattle.page_secrets.proofs.NodeTold.{hidden_is_untold}
use Rattle.page_secrets.proofs.laws.hidden_is_untold.Goals as goal

pub returns : goal.returns
returns c = hidden_is_untold
