use Rattle.turn_laws.proofs.Words.{plain_words}
use Rattle.turn_laws.proofs.laws.the_rule_in_plain_words.Goals as goal

pub returns : goal.returns
returns g c = plain_words g.L.Slot.noted g.L.Slot.noted_desk
