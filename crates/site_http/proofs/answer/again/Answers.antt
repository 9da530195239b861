use Rattle.site_http.proofs.Again.{again_of}
use Rattle.site_http.proofs.answer.again.Goals as goal

pub returns-in-Page : goal.returns-in-Page
returns-in-Page c =
    rw (c.in-Page.is, c.if-not-closing.true) (again_of c.find.result c.args.recent.now c.args.state.now c.args.ask.now c.args.now c.requires (rw c.number.ensures at c.find.ensures.fits) c.find.ensures.recent)
