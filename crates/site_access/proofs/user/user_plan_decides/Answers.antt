use Rattle.site_access.proofs.SilentPlans.{reads_only, reads_exactly}
use Rattle.site_access.proofs.RoutePlans.{user_read}
use Rattle.site_access.proofs.user.user_plan_decides.Goals as goal

pub returns : goal.returns
returns c = record {
  answers = λ u v. reads_only _ v _ _ (user_read u v);
  exact = λ u v. reads_exactly _ v _ _ (user_read u v);
}
