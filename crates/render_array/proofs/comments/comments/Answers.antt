use Rattle.render_array.specs.Nodes.{comments}
use Rattle.site_access.specs.Plans.{holds}
use Rattle.render_canvas.proofs.Run.{next, over_text}
use Rattle.render_array.proofs.comments.comments.Goals as goal

pub returns : goal.returns
unfolding comments
returns c =
    next _ (over_text holds c.holds-administers.ensures c.administer_comments.ensures)
    (next _ (over_text holds c.holds-accesses.ensures c.access_comments.ensures) c.comments_for.ensures)
