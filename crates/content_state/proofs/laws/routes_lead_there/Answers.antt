use Rattle.content_state.proofs.There.{leads_there}
use Rattle.content_state.proofs.laws.routes_lead_there.Goals as goal

pub returns : goal.returns
returns c = leads_there
