use Rattle.std.proofs.Common.{◌∙◌, ap, codes}
use Rattle.clap.specs.Words.{found_of}
use Rattle.clap.proofs.WalkLemmas.{first_value-rows}
use Rattle.site_cli.specs.Words.{number_given}
use Rattle.site_cli.proofs.words.number_given.Goals as goal

pub returns-in-None : goal.returns-in-None
returns-in-None c = ap number_given (c.in-None.ensures ∙ first_value-rows (found_of c.args.matches.now) (codes "N"))

pub returns-in_ok-number-in-Some : goal.returns-in_ok-number-in-Some
returns-in_ok-number-in-Some c =
    c.in_ok-number-in-Some.ensures ∙ ap number_given (c.in-Some.ensures ∙ first_value-rows (found_of c.args.matches.now) (codes "N"))
