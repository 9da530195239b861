use Rattle.std.proofs.Common.{sym, ◌∙◌}
use Rattle.site_lists.specs.ListingPlan.{candidate_rows}
use Rattle.site_lists.proofs.ListingPlans.{candidates_answer}
use Rattle.render_canvas.proofs.Run.{next, done}
use Rattle.render_canvas.proofs.Noted.{by_result}
use Rattle.render_canvas.proofs.canvas.Canvas.candidates.Goals as goal

pub returns-in-Ok-clause-shows : goal.returns-in-Ok-clause-shows
unfolding candidate_rows
returns-in-Ok-clause-shows c =
    by_result (next _ c.by_lists.ensures (next _ c.by_terms.ensures done))
    (rw (← c.self.view_is) (c.in-Ok.ensures.ids ∙ sym ((candidates_answer c.args.listing.now c.args.moment _).0)))
