use Rattle.std.proofs.Common.{◌∙◌, ap, codes}
use Rattle.clap.specs.Words.{found_of}
use Rattle.clap.proofs.WalkLemmas.{first_value-rows}
use Rattle.site_cli.specs.Words.{number_or}
use Rattle.site_cli.proofs.words.limit_given.Goals as goal

pub returns-in-Some-clause-limit : goal.returns-in-Some-clause-limit
returns-in-Some-clause-limit c =
    c.number_to.ensures.number ∙ ap (number_or 9223372036854775808 1000000) (c.in-Some.ensures ∙ first_value-rows (found_of c.args.matches.now) (codes "limit"))

pub returns-in-None-clause-limit : goal.returns-in-None-clause-limit
returns-in-None-clause-limit c = ap (number_or 9223372036854775808 1000000) (c.in-None.ensures ∙ first_value-rows (found_of c.args.matches.now) (codes "limit"))
