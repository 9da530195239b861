use Rattle.site_http.proofs.Again.{recent_stay}
use Rattle.site_http.proofs.answer.answer.Goals as goal

pub returns-then-request-clause-recent : goal.returns-then-request-clause-recent
returns-then-request-clause-recent g c = recent_stay c.args.recent.now c.answer_late.ensures.moves c.requires.recent
