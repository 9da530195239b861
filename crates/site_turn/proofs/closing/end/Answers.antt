use Rattle.site_turn.proofs.Ending.{ends_with}
use Rattle.site_turn.proofs.closing.end.Goals as goal

pub returns : goal.returns
returns g c = let seen = c.close_with-closed.ensures.values.2 in ends_with seen.0 _ _ seen.1.0 seen.1.1 c.requires.note
