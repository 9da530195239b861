use Rattle.std.proofs.Common.{sym, ◌∙◌}
use Rattle.http_heads.proofs.Within.{ends, accepted, never}
use Rattle.http_heads.proofs.in_target.ends_in_target.Goals as goal

pub returns-clause-is : goal.returns-clause-is
returns-clause-is c h = ends c.args.bytes.now (sym c.scan.ensures ∙ h)

pub returns-clause-is_not : goal.returns-clause-is_not
returns-clause-is_not c h e = never (sym h ∙ c.scan.ensures ∙ accepted c.args.bytes.now e)
