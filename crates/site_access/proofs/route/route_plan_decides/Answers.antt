use Rattle.site_access.proofs.SilentPlans.{reads_only, reads_exactly}
use Rattle.site_access.proofs.RoutePlans.{route_read}
use Rattle.site_access.proofs.route.route_plan_decides.Goals as goal

pub returns : goal.returns
returns c = record {
  answers = λ to v. reads_only _ v _ _ (route_read to v);
  exact = λ to v. reads_exactly _ v _ _ (route_read to v);
}
