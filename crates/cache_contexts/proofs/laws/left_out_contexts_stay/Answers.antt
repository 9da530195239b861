use Rattle.cache_contexts.proofs.LeftOut as laws
use Rattle.cache_contexts.proofs.laws.left_out_contexts_stay.Goals as goal

pub returns : goal.returns
returns c = laws.left_out_stay
