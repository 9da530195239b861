use Rattle.std.proofs.Common.{sym, subst}
use Rattle.cache_entries.specs.Sound.{IsSoundKept}
use Rattle.page_meaning.specs.Meaning.{meaning}
use Rattle.site_hall.specs.Sides.{HallSide}
use Rattle.site_hall.proofs.Halls.{kept_bins}
use Rattle.site_hall.proofs.Wholes.{stock_side}
use Rattle.site_hall.proofs.hall.Hall.keep.Goals as goal

pub invariant_of-self : goal.invariant_of-self
invariant_of-self c =
    let sound = subst (λ (h : HallSide). IsSoundKept meaning h.base h.log c.args.key c.args.kept) (sym c.self.view_is) c.requires in
    stock_side c.keep.new.self c.self.invariant
    (kept_bins c.self.inside.log.base c.self.inside.log.edits c.self.inside.stock c.keep.new.self c.args.bin c.args.key c.args.kept c.keep.result c.keep.ensures.puts c.keep.ensures.refused sound c.self.invariant.is_hall.entries)

pub returns-clause-is_hall : goal.returns-clause-is_hall
returns-clause-is_hall c = (invariant_of-self c).is_hall
