use Rattle.std.proofs.Common.{◌≡◌, sym, ap, ◌∙◌, None}
use Rattle.std.proofs.lemmas.Result.{IfOk-weaker}
use Rattle.site_commands.specs.Causes.{commit_of, accepted}
use Rattle.site_commands.specs.Comments.{create_refusals, create_writes}
use Rattle.site_commands.specs.declared.answer.Done.TheVariants as done
use Rattle.edit_machine.specs.First.{first_cause}
use Rattle.edit_machine.proofs.Decided.{refused_first, passed_first}
use Rattle.edit_machine.proofs.comments.create_next.Goals as goal

pub returns-in-Some : goal.returns-in-Some
returns-in-Some c =
    let state = c.args.state.now in
    let causes = create_refusals state.rows c.args.nid c.args.comment c.args.next in
    let commit = commit_of c.args.pass (create_writes c.args.comment c.args.next) in
    refused_first causes (accepted state commit (done.CommentCreated c.args.next)) c.in-Some.refusal (sym c.in-Some.is ∙ c.in_ok-refusal.ensures.cause)

pub returns : goal.returns
returns c =
    let state = c.args.state.now in
    let causes = create_refusals state.rows c.args.nid c.args.comment c.args.next in
    let commit = commit_of c.args.pass (create_writes c.args.comment c.args.next) in
    let none : None ≡ first_cause causes = sym c.in_default.is ∙ c.in_ok-refusal.ensures.cause in
    IfOk-weaker c.accepted.result _ _
    (λ verdict told. told ∙ ap (λ made. accepted state made (done.CommentCreated c.args.next)) c.in_ok-commit.ensures ∙ passed_first causes (accepted state commit (done.CommentCreated c.args.next)) none)
    c.accepted.ensures
