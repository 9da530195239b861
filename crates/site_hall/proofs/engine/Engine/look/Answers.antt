use Rattle.site_hall.proofs.Halls.{whole_stock, looked_bins, looked_sound}
use Rattle.site_hall.proofs.engine.Engine.look.Goals as goal

pub invariant_of-self : goal.invariant_of-self
invariant_of-self g c =
    whole_stock c.look.new.self c.self.invariant
    (looked_bins c.self.inside.log.base c.self.inside.log.edits c.self.inside.stock c.look.new.self c.args.bin c.args.key.now c.look.result c.look.ensures.finds c.look.ensures.refused c.self.invariant.is_hall.entries)

pub returns-clause-is_hall : goal.returns-clause-is_hall
returns-clause-is_hall g c = (invariant_of-self g c).is_hall

pub returns-clause-sound : goal.returns-clause-sound
returns-clause-sound g c =
    looked_sound c.self.inside.log.base c.self.inside.log.edits c.self.inside.stock c.look.new.self c.args.bin c.args.key.now c.look.result c.look.ensures.finds c.self.invariant.is_hall.entries
