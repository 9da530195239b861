use Rattle.site_access.proofs.SilentPlans.{reads_only}
use Rattle.site_access.proofs.PlansDecide.{node_read, create_read, field_read}
use Rattle.site_access.proofs.laws.plans_answer.Goals as goal

pub returns : goal.returns
returns c = record {
  node = λ o n v. reads_only _ v _ _ (node_read o n v);
  create = λ type v. reads_only _ v _ _ (create_read type v);
  field = λ o n type name v. reads_only _ v _ _ (field_read o n type name v);
}
