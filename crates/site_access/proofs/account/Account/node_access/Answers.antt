use Rattle.std.proofs.lemmas.Result.{IfOk-weaker}
use Rattle.site_access.specs.Access.{access_to_node}
use Rattle.site_access.specs.Plans.{node_access}
use Rattle.site_access.specs.Depends.{node_depends}
use Rattle.site_access.proofs.PlansDecide.{node_read}
use Rattle.site_access.proofs.WholeResults.{told_is, depends_is, decided_is}
use Rattle.site_access.proofs.account.Account.node_access.Goals as goal

pub returns-clause-answer : goal.returns-clause-answer
returns-clause-answer c =
    let rows = c.args.state.now.rows in
    let viewer = c.args.self.now.viewer in
    IfOk-weaker c.decide_node.result _ _ (told_is (access_to_node rows viewer c.args.op c.args.n) (node_depends rows viewer c.args.op c.args.n)) c.decide_node.ensures

pub returns-clause-covered : goal.returns-clause-covered
returns-clause-covered c =
    let rows = c.args.state.now.rows in
    let viewer = c.args.self.now.viewer in
    IfOk-weaker c.decide_node.result _ _ (λ r whole. decided_is (node_access c.args.op c.args.n) rows viewer (access_to_node rows viewer c.args.op c.args.n) (node_depends rows viewer c.args.op c.args.n) r (λ ask moment. node_read c.args.op c.args.n (record { rows = rows; viewer = viewer; ask = ask; moment = moment })) whole) c.decide_node.ensures

pub returns-clause-depends : goal.returns-clause-depends
returns-clause-depends c =
    let rows = c.args.state.now.rows in
    let viewer = c.args.self.now.viewer in
    IfOk-weaker c.decide_node.result _ _ (depends_is (access_to_node rows viewer c.args.op c.args.n) (node_depends rows viewer c.args.op c.args.n)) c.decide_node.ensures
