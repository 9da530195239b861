use Rattle.site_access.proofs.SilentPlans.{reads_only, reads_exactly}
use Rattle.site_access.proofs.CommentPlans.{comment_read}
use Rattle.site_access.proofs.comment.comment_plan_decides.Goals as goal

pub returns : goal.returns
returns ctx = record {
  answers = λ o c v. reads_only _ v _ _ (comment_read o c v);
  exact = λ o c v. reads_exactly _ v _ _ (comment_read o c v);
}
