use Rattle.std.proofs.Common.{arith}
use Rattle.site_hall.proofs.Logs.{number_in}
use Rattle.site_hall.proofs.log.Log.newest.Goals as goal

pub returns-clause-small : goal.returns-clause-small
returns-clause-small c =
    let number = number_in c.self.invariant in
    let short = c.self.invariant.short in
    let small = c.self.invariant.small in
    omega arith
