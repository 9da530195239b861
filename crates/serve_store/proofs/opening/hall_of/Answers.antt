use Rattle.serve_store.proofs.Openings.{no_base, opened}
use Rattle.serve_store.proofs.opening.hall_of.Goals as goal

pub returns-in-Ok-new-clause-opened : goal.returns-in-Ok-new-clause-opened
returns-in-Ok-new-clause-opened g c = opened _ _ _ _ _ _ _ c.in-Ok-new.ensures.opened c.load.ensures.stays c.in-Ok.ensures.steady c.in-Ok.ensures.held c.in-Ok-new.ensures.is_hall c.in-Ok-new.ensures.small

pub returns-in-Ok-clause-none : goal.returns-in-Ok-clause-none
returns-in-Ok-clause-none g c = no_base _ _ _ _ c.in-Ok.ensures.held c.in-Err-new.ensures.refused c.no_site.ensures
