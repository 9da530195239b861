use Rattle.std.proofs.Common.{refl, arith}
use Rattle.cacheability.proofs.Decimals.{one_digit, power_is}
use Rattle.cacheability.proofs.decimal.power_above.Goals as goal

pub returns-then-number-lt10 : goal.returns-then-number-lt10
returns-then-number-lt10 c = rw (one_digit c.args.number c.if-number-lt10.true) refl

pub returns-then-number-lt100 : goal.returns-then-number-lt100
returns-then-number-lt100 c = power_is 1 c.args.number c.if-number-lt10.false c.if-number-lt100.true

pub returns-then-number-lt1000 : goal.returns-then-number-lt1000
returns-then-number-lt1000 c = power_is 2 c.args.number c.if-number-lt100.false c.if-number-lt1000.true

pub returns-then-number-lt10000 : goal.returns-then-number-lt10000
returns-then-number-lt10000 c = power_is 3 c.args.number c.if-number-lt1000.false c.if-number-lt10000.true

pub returns-then-number-lt100000 : goal.returns-then-number-lt100000
returns-then-number-lt100000 c = power_is 4 c.args.number c.if-number-lt10000.false c.if-number-lt100000.true

pub returns-then-number-lt1000000 : goal.returns-then-number-lt1000000
returns-then-number-lt1000000 c = power_is 5 c.args.number c.if-number-lt100000.false c.if-number-lt1000000.true

pub returns-then-number-lt10000000 : goal.returns-then-number-lt10000000
returns-then-number-lt10000000 c = power_is 6 c.args.number c.if-number-lt1000000.false c.if-number-lt10000000.true

pub returns-then-number-lt100000000 : goal.returns-then-number-lt100000000
returns-then-number-lt100000000 c = power_is 7 c.args.number c.if-number-lt10000000.false c.if-number-lt100000000.true

pub returns-then-number-lt1000000000 : goal.returns-then-number-lt1000000000
returns-then-number-lt1000000000 c = power_is 8 c.args.number c.if-number-lt100000000.false c.if-number-lt1000000000.true

pub returns-else-number-lt1000000000 : goal.returns-else-number-lt1000000000
returns-else-number-lt1000000000 c = power_is 9 c.args.number c.if-number-lt1000000000.false (omega arith)
