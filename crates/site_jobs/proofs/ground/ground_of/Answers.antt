use Rattle.std.proofs.Common.{rules, refl, inr, arith}
use Rattle.site_jobs.specs.Ground.{IsNoGround}
use Rattle.site_jobs.proofs.Refusing.{said}
use Rattle.site_jobs.proofs.ground.ground_of.Goals as goal

pub returns-then-stored-gt-GREATEST_NUMBER-clause-none :
    goal.returns-then-stored-gt-GREATEST_NUMBER-clause-none
returns-then-stored-gt-GREATEST_NUMBER-clause-none c =
    said IsNoGround c.args.stored _ c.refused.result
    (inr (record { rows = search rules; great = omega arith; named = refl })) c.refused.ensures
