use Rattle.keeper_sqlite.proofs.Heads.{head_some}
use Rattle.keeper_sqlite.proofs.number.head_text.Goals as goal

pub returns : goal.returns
returns c = head_some _ c.args.head c.in_ok-to_string.ensures.ok c.ranges.head.fits
