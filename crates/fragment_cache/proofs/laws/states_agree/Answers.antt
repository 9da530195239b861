use Rattle.fragment_cache.proofs.Fresh as laws
use Rattle.fragment_cache.proofs.laws.states_agree.Goals as goal

pub returns : goal.returns
returns c = laws.states_agree
