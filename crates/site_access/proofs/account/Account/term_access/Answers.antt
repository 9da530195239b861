use Rattle.std.proofs.lemmas.Result.{IfOk-weaker}
use Rattle.site_access.specs.Terms.{access_to_term, term_access, term_depends}
use Rattle.site_access.proofs.RoutePlans.{term_read}
use Rattle.site_access.proofs.WholeResults.{told_is, depends_is, decided_is}
use Rattle.site_access.proofs.account.Account.term_access.Goals as goal

pub returns-clause-answer : goal.returns-clause-answer
returns-clause-answer c =
    let rows = c.args.state.now.rows in
    let viewer = c.args.self.now.viewer in
    IfOk-weaker c.decide_term.result _ _ (told_is (access_to_term rows viewer c.args.t) (term_depends c.args.t)) c.decide_term.ensures

pub returns-clause-covered : goal.returns-clause-covered
returns-clause-covered c =
    let rows = c.args.state.now.rows in
    let viewer = c.args.self.now.viewer in
    IfOk-weaker c.decide_term.result _ _ (λ r whole. decided_is (term_access c.args.t) rows viewer (access_to_term rows viewer c.args.t) (term_depends c.args.t) r (λ ask moment. term_read c.args.t (record { rows = rows; viewer = viewer; ask = ask; moment = moment })) whole) c.decide_term.ensures

pub returns-clause-depends : goal.returns-clause-depends
returns-clause-depends c =
    let rows = c.args.state.now.rows in
    let viewer = c.args.self.now.viewer in
    IfOk-weaker c.decide_term.result _ _ (depends_is (access_to_term rows viewer c.args.t) (term_depends c.args.t)) c.decide_term.ensures
