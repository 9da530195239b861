use Rattle.edit_laws.proofs.CookieViewers.{viewers_there}
use Rattle.edit_laws.proofs.laws.viewers_are_there.Goals as goal

pub returns : goal.returns
returns c = viewers_there
