use Rattle.std.proofs.lemmas.Result.{IfOk-weaker}
use Rattle.site_access.specs.Comments.{access_to_comment, comment_access, comment_depends}
use Rattle.site_access.proofs.CommentPlans.{comment_read}
use Rattle.site_access.proofs.WholeResults.{told_is, depends_is, decided_is}
use Rattle.site_access.proofs.account.Account.comment_access.Goals as goal

pub returns-clause-answer : goal.returns-clause-answer
returns-clause-answer c =
    let rows = c.args.state.now.rows in
    let viewer = c.args.self.now.viewer in
    IfOk-weaker c.decide_comment.result _ _ (told_is (access_to_comment rows viewer c.args.op c.args.c) (comment_depends rows viewer c.args.op c.args.c)) c.decide_comment.ensures

pub returns-clause-covered : goal.returns-clause-covered
returns-clause-covered c =
    let rows = c.args.state.now.rows in
    let viewer = c.args.self.now.viewer in
    IfOk-weaker c.decide_comment.result _ _ (λ r whole. decided_is (comment_access c.args.op c.args.c) rows viewer (access_to_comment rows viewer c.args.op c.args.c) (comment_depends rows viewer c.args.op c.args.c) r (λ ask moment. comment_read c.args.op c.args.c (record { rows = rows; viewer = viewer; ask = ask; moment = moment })) whole) c.decide_comment.ensures

pub returns-clause-depends : goal.returns-clause-depends
returns-clause-depends c =
    let rows = c.args.state.now.rows in
    let viewer = c.args.self.now.viewer in
    IfOk-weaker c.decide_comment.result _ _ (depends_is (access_to_comment rows viewer c.args.op c.args.c) (comment_depends rows viewer c.args.op c.args.c)) c.decide_comment.ensures
