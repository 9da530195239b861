use Rattle.std.proofs.lemmas.Result.{IfOk-weaker}
use Rattle.site_access.specs.Users.{access_to_user, user_access, user_depends}
use Rattle.site_access.proofs.RoutePlans.{user_read}
use Rattle.site_access.proofs.WholeResults.{told_is, depends_is, decided_is}
use Rattle.site_access.proofs.account.Account.user_access.Goals as goal

pub returns-clause-answer : goal.returns-clause-answer
returns-clause-answer c =
    let rows = c.args.state.now.rows in
    let viewer = c.args.self.now.viewer in
    IfOk-weaker c.decide_user.result _ _ (told_is (access_to_user rows viewer c.args.u) (user_depends rows viewer c.args.u)) c.decide_user.ensures

pub returns-clause-covered : goal.returns-clause-covered
returns-clause-covered c =
    let rows = c.args.state.now.rows in
    let viewer = c.args.self.now.viewer in
    IfOk-weaker c.decide_user.result _ _ (λ r whole. decided_is (user_access c.args.u) rows viewer (access_to_user rows viewer c.args.u) (user_depends rows viewer c.args.u) r (λ ask moment. user_read c.args.u (record { rows = rows; viewer = viewer; ask = ask; moment = moment })) whole) c.decide_user.ensures

pub returns-clause-depends : goal.returns-clause-depends
returns-clause-depends c =
    let rows = c.args.state.now.rows in
    let viewer = c.args.self.now.viewer in
    IfOk-weaker c.decide_user.result _ _ (depends_is (access_to_user rows viewer c.args.u) (user_depends rows viewer c.args.u)) c.decide_user.ensures
