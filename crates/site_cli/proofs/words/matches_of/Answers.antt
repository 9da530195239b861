use Rattle.std.proofs.Common.{◌≡◌, ap, subst, map, []}
use Rattle.std.specs.String.{string_bytes}
use Rattle.clap.specs.Words.{App, HasKind, app_of, fault_of, is_simple, is_simple_and_free, subcommand_of, subcommand_rows_of}
use Rattle.site_cli.proofs.Parsing.{some_kind}
use Rattle.site_cli.specs.Words.{synopsis}
use Rattle.site_cli.proofs.words.matches_of.Goals as goal

pub returns-in-Ok-clause-ok : goal.returns-in-Ok-clause-ok
returns-in-Ok-clause-ok c =
    let is : app_of c.in_ok-site_command.field-0 ≡ synopsis = c.in_ok-site_command.ensures in
    let none = subst (λ (a : App). fault_of a (map string_bytes c.args.words.now) ≡ []) is (c.in-Ok.ensures.kinds (ap is_simple_and_free is)) in
    let found = subst (λ (a : App). subcommand_rows_of c.in-Ok.matches ≡ subcommand_of a (map string_bytes c.args.words.now)) is (c.in-Ok.ensures.matches (ap is_simple is)).1 in
    (none, found)

pub returns-in-Err-clause-bad : goal.returns-in-Err-clause-bad
returns-in-Err-clause-bad c =
    let is : app_of c.in_ok-site_command.field-0 ≡ synopsis = c.in_ok-site_command.ensures in
    let kinds = subst (λ (a : App). HasKind (fault_of a (map string_bytes c.args.words.now)) c.in-Err.error) is (c.in-Err.ensures.kinds (ap is_simple_and_free is)) in
    some_kind (fault_of synopsis (map string_bytes c.args.words.now)) c.in-Err.error c.fault_from.result kinds c.fault_from.ensures.memory
