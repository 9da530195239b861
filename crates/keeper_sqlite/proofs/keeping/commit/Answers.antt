use Rattle.std.proofs.Common.{◌≡◌, Err, subst, sym}
use Rattle.keeper_sqlite.proofs.Turns.{undone_commit}
use Rattle.keeper_sqlite.proofs.keeping.commit.Goals as goal
use Rattle.store_six.specs.At.{at}
use Rattle.store_six.specs.Calls.{Commits, Runs}

pub returns-in-Ok-clause-runs : goal.returns-in-Ok-clause-runs
returns-in-Ok-clause-runs g c = subst (Runs (λ t. t ≡ g.X.Six.seen c.args.six.now) Commits (at g.X.Six c.args.six.now) (at g.X.Six c.commit.new.self)) c.in-Ok.is c.commit.ensures

pub returns-in-Err-clause-runs : goal.returns-in-Err-clause-runs
returns-in-Err-clause-runs g c =
    subst (λ f. Runs (λ t. t ≡ g.X.Six.seen c.args.six.now) Commits (at g.X.Six c.args.six.now) (at g.X.Six c.given_up.new.six) (Err f)) (sym c.given_up.ensures.same)
    (undone_commit (at g.X.Six c.args.six.now) (at g.X.Six c.commit.new.self) (at g.X.Six c.given_up.new.six) c.in-Err.refusal (subst (Runs (λ t. t ≡ g.X.Six.seen c.args.six.now) Commits (at g.X.Six c.args.six.now) (at g.X.Six c.commit.new.self)) c.in-Err.is c.commit.ensures) c.given_up.ensures.undone)

pub returns-in-Ok-clause-outside : goal.returns-in-Ok-clause-outside
returns-in-Ok-clause-outside g c = λ clean. tt

pub returns-in-Err-clause-outside : goal.returns-in-Err-clause-outside
returns-in-Err-clause-outside g c = c.given_up.ensures.undone.outside
