use Rattle.std.proofs.Common.{arith}
use Rattle.html_out.proofs.Runs.{escaped-none, plain-more}
use Rattle.html_out.proofs.escaping.plain_front.Goals as goal

pub bytes-init : goal.bytes-init
bytes-init c = (omega arith, escaped-none)

pub bytes-preserved : goal.bytes-preserved
bytes-preserved c =
    let so_far = c.bytes.invariant in
    (omega (arith, c.bytes-test.true), plain-more c.args.text.now c.bytes.n 0 c.bytes-test.true so_far.1 (c.is_plain.ensures c.if-is_plain.true))
