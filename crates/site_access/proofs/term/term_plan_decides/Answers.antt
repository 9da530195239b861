use Rattle.site_access.proofs.SilentPlans.{reads_only, reads_exactly}
use Rattle.site_access.proofs.RoutePlans.{term_read}
use Rattle.site_access.proofs.term.term_plan_decides.Goals as goal

pub returns : goal.returns
returns c = record {
  answers = λ t v. reads_only _ v _ _ (term_read t v);
  exact = λ t v. reads_exactly _ v _ _ (term_read t v);
}
