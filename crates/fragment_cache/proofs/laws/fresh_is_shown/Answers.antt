use Rattle.fragment_cache.proofs.Fresh as laws
use Rattle.fragment_cache.proofs.laws.fresh_is_shown.Goals as goal

pub returns : goal.returns
returns c = laws.fresh_is_shown
