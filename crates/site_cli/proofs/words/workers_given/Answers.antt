use Rattle.std.proofs.Common.{◌∙◌, ap, codes}
use Rattle.clap.specs.Words.{found_of}
use Rattle.clap.proofs.WalkLemmas.{first_value-rows}
use Rattle.site_cli.specs.Words.{number_or}
use Rattle.site_cli.proofs.words.workers_given.Goals as goal

pub returns-in-Some-clause-workers : goal.returns-in-Some-clause-workers
returns-in-Some-clause-workers c =
    c.number_to.ensures.number ∙ ap (number_or 4 16) (c.in-Some.ensures ∙ first_value-rows (found_of c.args.matches.now) (codes "workers"))

pub returns-in-None-clause-workers : goal.returns-in-None-clause-workers
returns-in-None-clause-workers c = ap (number_or 4 16) (c.in-None.ensures ∙ first_value-rows (found_of c.args.matches.now) (codes "workers"))
