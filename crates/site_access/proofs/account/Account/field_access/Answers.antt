use Rattle.std.proofs.lemmas.Result.{IfOk-weaker}
use Rattle.site_access.specs.Access.{access_to_field_of, node_type_of}
use Rattle.site_access.specs.Plans.{field_access}
use Rattle.site_access.specs.Depends.{field_of_depends}
use Rattle.site_access.proofs.PlansDecide.{field_read}
use Rattle.site_access.proofs.WholeResults.{told_is, depends_is, decided_is}
use Rattle.site_access.proofs.account.Account.field_access.Goals as goal

pub returns-clause-answer : goal.returns-clause-answer
returns-clause-answer c =
    let rows = c.args.state.now.rows in
    let viewer = c.args.self.now.viewer in
    IfOk-weaker c.decide_field.result _ _ (told_is (access_to_field_of rows viewer c.args.op c.args.n c.args.name.now) (field_of_depends rows c.args.op c.args.n c.args.name.now)) c.decide_field.ensures

pub returns-clause-covered : goal.returns-clause-covered
returns-clause-covered c =
    let rows = c.args.state.now.rows in
    let viewer = c.args.self.now.viewer in
    IfOk-weaker c.decide_field.result _ _ (λ r whole. decided_is (field_access c.args.op c.args.n (node_type_of rows c.args.n) c.args.name.now) rows viewer (access_to_field_of rows viewer c.args.op c.args.n c.args.name.now) (field_of_depends rows c.args.op c.args.n c.args.name.now) r (λ ask moment. field_read c.args.op c.args.n (node_type_of rows c.args.n) c.args.name.now (record { rows = rows; viewer = viewer; ask = ask; moment = moment })) whole) c.decide_field.ensures

pub returns-clause-depends : goal.returns-clause-depends
returns-clause-depends c =
    let rows = c.args.state.now.rows in
    let viewer = c.args.self.now.viewer in
    IfOk-weaker c.decide_field.result _ _ (depends_is (access_to_field_of rows viewer c.args.op c.args.n c.args.name.now) (field_of_depends rows c.args.op c.args.n c.args.name.now)) c.decide_field.ensures
