use Rattle.std.proofs.Common.{sym, ◌∙◌}
use Rattle.render_array.specs.Listings.{pager}
use Rattle.render_canvas.proofs.Run.{done, if_true, if_false}
use Rattle.render_array.proofs.listings.pager.Goals as goal

pub returns-then-not-is_only : goal.returns-then-not-is_only
unfolding pager
returns-then-not-is_only c = if_false _ (sym c.is_only.ensures ∙ c.if-not-is_only.true) c.pager_shown.ensures

pub returns-else-not-is_only : goal.returns-else-not-is_only
unfolding pager
returns-else-not-is_only c = if_true _ (sym c.is_only.ensures ∙ c.if-not-is_only.false) done
