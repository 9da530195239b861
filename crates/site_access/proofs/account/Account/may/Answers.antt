use Rattle.std.proofs.Common.{ap, ◌∙◌}
use Rattle.content_rows.specs.Permission.{has}
use Rattle.site_access.proofs.account.Account.may.Goals as goal

pub returns : goal.returns
returns c = λ rows account. c.has.ensures ∙ ap (λ held. has held c.args.permission.now) (c.get.ensures ∙ account.permissions_are)
