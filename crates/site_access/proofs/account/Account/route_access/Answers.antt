use Rattle.std.proofs.lemmas.Result.{IfOk-weaker}
use Rattle.site_access.specs.Routes.{access_to_route, route_access, route_depends}
use Rattle.site_access.proofs.RoutePlans.{route_read}
use Rattle.site_access.proofs.WholeResults.{told_is, depends_is, decided_is}
use Rattle.site_access.proofs.account.Account.route_access.Goals as goal

pub returns-clause-answer : goal.returns-clause-answer
returns-clause-answer c =
    let rows = c.args.state.now.rows in
    let viewer = c.args.self.now.viewer in
    IfOk-weaker c.decide_route.result _ _ (told_is (access_to_route rows viewer c.args.to.now) (route_depends rows viewer c.args.to.now)) c.decide_route.ensures

pub returns-clause-covered : goal.returns-clause-covered
returns-clause-covered c =
    let rows = c.args.state.now.rows in
    let viewer = c.args.self.now.viewer in
    IfOk-weaker c.decide_route.result _ _ (λ r whole. decided_is (route_access c.args.to.now) rows viewer (access_to_route rows viewer c.args.to.now) (route_depends rows viewer c.args.to.now) r (λ ask moment. route_read c.args.to.now (record { rows = rows; viewer = viewer; ask = ask; moment = moment })) whole) c.decide_route.ensures

pub returns-clause-depends : goal.returns-clause-depends
returns-clause-depends c =
    let rows = c.args.state.now.rows in
    let viewer = c.args.self.now.viewer in
    IfOk-weaker c.decide_route.result _ _ (depends_is (access_to_route rows viewer c.args.to.now) (route_depends rows viewer c.args.to.now)) c.decide_route.ensures
