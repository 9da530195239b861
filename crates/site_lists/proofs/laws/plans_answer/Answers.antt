use Rattle.site_lists.proofs.ListingPlans.{candidates_answer, listing_answers}
use Rattle.site_lists.proofs.VisiblePlans.{visible_answers}
use Rattle.site_lists.proofs.laws.plans_answer.Goals as goal

pub returns : goal.returns
returns c = record { candidates = candidates_answer; listing = listing_answers; visible = visible_answers }
