use Rattle.std.proofs.Common.{◌≡◌, ◌∙◌, List, ℕ, ap, subst}
use Rattle.drill_input.specs.Asked.{Asked, asked}
use Rattle.drill_input.specs.SiteDrawn.{SiteDrawn, site_drawn}
use Rattle.site_drill.specs.Drill.{drill_requests}
use Rattle.site_drill.specs.Stops.{NotAnswered}
use Rattle.site_drill.proofs.job.figures_of.Goals as goal

pub returns-clause-none : goal.returns-clause-none
returns-clause-none c =
    let drawn = c.entries.view_is ∙ c.in_ok-entries.ensures ∙ ap site_drawn c.new.ensures in
    let made : c.into_text.result.items ≡ drill_requests c.args.number =
    c.into_text.ensures ∙ ap (λ (r : Asked). r.text) (c.in_ok-requests.ensures ∙ ap (λ (s : SiteDrawn). asked 900 s.seed) drawn) in
    c.not_answered.ensures c.args.number (subst (λ (l : List ℕ). NotAnswered c.in-Err.stop l) made c.in-Err.ensures.stopped)
