use Rattle.std.proofs.Common.{sym, subst}
use Rattle.site_hall.specs.Hall.{HallView}
use Rattle.site_hall.specs.Looked.{MayBeKept}
use Rattle.site_hall.proofs.Halls.{whole_stock, kept_bins}
use Rattle.site_hall.proofs.engine.Engine.keep.Goals as goal

pub invariant_of-self : goal.invariant_of-self
invariant_of-self g c =
    let sound = subst (λ (h : HallView). MayBeKept h c.args.key c.args.kept) (sym c.self.view_is) c.requires in
    whole_stock c.keep.new.self c.self.invariant
    (kept_bins c.self.inside.log.base c.self.inside.log.edits c.self.inside.stock c.keep.new.self c.args.bin c.args.key c.args.kept c.keep.result c.keep.ensures.puts c.keep.ensures.refused sound c.self.invariant.is_hall.entries)

pub returns-clause-is_hall : goal.returns-clause-is_hall
returns-clause-is_hall g c = (invariant_of-self g c).is_hall
