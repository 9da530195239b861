use Rattle.site_hall.specs.Alone.{AloneView}
use Rattle.site_hall.proofs.Callers.{alone_own, stock_alone}
use Rattle.site_hall.proofs.alone.AloneHouse.look.Goals as goal

pub returns-clause-own : goal.returns-clause-own
returns-clause-own g c =
    let a : AloneView = record { hall = c.self.inside.hall; opened = c.self.inside.opened; handed = c.self.inside.handed.items; keepers = c.self.inside.keepers; unkept = c.self.inside.unkept } in
    alone_own (record a { hall = c.look.new.self }) (stock_alone a c.look.new.self a.unkept c.self.invariant c.look.ensures.beside c.look.ensures.is_hall)
