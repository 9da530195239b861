use Rattle.std.proofs.Common.{map}
use Rattle.std.specs.String.{string_bytes}
use Rattle.std.proofs.lemmas.Result.{err_from_is_err_and}
use Rattle.site_cli.proofs.Parsing.{none_asked}
use Rattle.site_cli.proofs.words.read_words.Goals as goal

pub returns-in_err-found-clause-bad : goal.returns-in_err-found-clause-bad
returns-in_err-found-clause-bad c =
    let p = err_from_is_err_and c.from_residual.result c.from_residual.ensures.1 in
    rw (p.1, p.2) (λ bad. none_asked (map string_bytes c.args.words.now) (c.in_err-found.ensures.bad bad))
