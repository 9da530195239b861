use Rattle.element_entries.proofs.Entries.{made_on, fresh_on}
use Rattle.element_entries.proofs.laws.entries_are_made_on_states.Goals as goal

pub returns : goal.returns
returns c = record { made = made_on; fresh = fresh_on }
