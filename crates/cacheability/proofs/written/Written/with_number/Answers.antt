use Rattle.std.proofs.Common.{◌≤◌, length, arith}
use Rattle.cacheability.specs.Decimal.{decimal}
use Rattle.cacheability.proofs.Digits.{length-decimal}
use Rattle.cacheability.proofs.written.Written.with_number.Goals as goal

pub put_number-requires : goal.put_number-requires
put_number-requires c =
    let short : length (decimal c.args.number) ≤ 10 = length-decimal 9 c.args.number (omega arith) in
    rw c.of-written.ensures (omega arith)
