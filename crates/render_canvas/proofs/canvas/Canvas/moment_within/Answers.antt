use Rattle.std.proofs.Common.{sym, subst}
use Rattle.site_lists.specs.ListingPlan.{moment_within}
use Rattle.render_canvas.specs.Canvas.{Renders}
use Rattle.render_canvas.proofs.Run.{done}
use Rattle.render_canvas.proofs.canvas.Canvas.moment_within.Goals as goal

pub returns-in-None : goal.returns-in-None
returns-in-None c = subst (λ age. Renders (moment_within age) c.args.self.now 0 c.args.self.now) (sym c.in-None.is) done
