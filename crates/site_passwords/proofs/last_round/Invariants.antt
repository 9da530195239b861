use Rattle.std.proofs.Common.{◌≡◌}
use Rattle.site_passwords.specs.Password.{digest_after}
use Rattle.site_passwords.proofs.last_round.Given as goal

abbrev pub invariant-rounds : goal.invariant-rounds
invariant-rounds l = l.digest ≡ digest_after l.round l.salt l.password
