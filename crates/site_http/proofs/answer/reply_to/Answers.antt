use Rattle.site_http.proofs.Again.{recent_stay}
use Rattle.site_http.proofs.answer.reply_to.Goals as goal

pub returns-in-Edit-clause-recent : goal.returns-in-Edit-clause-recent
returns-in-Edit-clause-recent g c = recent_stay c.args.recent.now c.edited-made.ensures.moves c.requires.recent
