-- Of a comment that is there, access to viewing it is what decides whether it is shown.
use Rattle.std.proofs.Common.{◌≡◌, ◌∙◌, true, false, refl, ap}
use Rattle.std.specs.Prelude.{Bool, ◌&&◌, ◌||◌}
use Rattle.cacheability.specs.declared.op.Op.TheVariants as op
use Rattle.content_state.specs.Viewer.{may}
use Rattle.site_access.specs.Comments.{view_decision, access_to_found, access_comments, administer_comments}
use Rattle.site_access.specs.Viewing.{is_allowed}
use Rattle.site_comments.specs.Viewed.{ViewsAreDecided}

decided_by : (published administers accesses : Bool) → is_allowed (view_decision published administers accesses) ≡ (administers || (accesses && published))
decided_by published true accesses = refl
decided_by true false true = refl
decided_by false false true = refl
decided_by true false false = refl
decided_by false false false = refl

pub view_decided : ViewsAreDecided
view_decided rows viewer k comment there =
    ap (λ found. is_allowed (access_to_found rows viewer op.View found)) there
    ∙ decided_by comment.status (may rows viewer administer_comments) (may rows viewer access_comments)
