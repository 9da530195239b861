use Rattle.std.proofs.Common.{◌<◌, length, sym, subst}
use Rattle.std.specs.Arc.{arc_value}
use Rattle.site_hall.specs.Log.{Log}
use Rattle.site_hall.proofs.Logs.{log_more, next_in}
use Rattle.site_hall.proofs.log.Log.publish.Goals as goal

pub invariant_of-self : goal.invariant_of-self
invariant_of-self c =
    log_more (arc_value c.made.inside.commit) c.push.new.self.items (arc_value c.made.inside.state) c.self.invariant
    (subst (λ (l : Log). length l.edits < 1000000) (sym c.self.view_is) c.requires.short)
    c.in-Ok.ensures.items
    (next_in _ c.args.self.now _ c.args.made c.self.view_is c.made.view_is c.requires.next)
