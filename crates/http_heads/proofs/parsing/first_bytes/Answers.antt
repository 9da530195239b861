use Rattle.std.proofs.Common.{arith, sym}
use Rattle.std.proofs.lemmas.List.{take_all}
use Rattle.http_heads.specs.Framing.{head_limit}
use Rattle.http_heads.proofs.parsing.first_bytes.Goals as goal

pub returns-then-bytes-lt16384 : goal.returns-then-bytes-lt16384
unfolding head_limit
returns-then-bytes-lt16384 c = sym (take_all head_limit c.args.bytes.now (omega arith))
