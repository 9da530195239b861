use Rattle.site_comments.proofs.Decided.{view_decided}
use Rattle.site_comments.proofs.laws.views_are_decided.Goals as goal

pub returns : goal.returns
returns c = view_decided
