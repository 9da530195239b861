use Rattle.std.proofs.Common.{ap, subst, sym, ◌∙◌}
use Rattle.std.proofs.lemmas.Result.{IfOk-weaker}
use Rattle.serde_json.specs.View.{view}
use Rattle.site_commands.specs.Right.{IsRight}
use Rattle.edit_bodies.specs.Bodies.{form_in, object_in, sent_of}
use Rattle.edit_bodies.specs.Commands.{command_at, command_in}
use Rattle.edit_bodies.proofs.RightCommands.{command_right}
use Rattle.edit_bodies.proofs.SameCommands.{same_command}
use Rattle.edit_bodies.proofs.command.command_of.Goals as goal

pub returns-clause-same : goal.returns-clause-same
unfolding sent_of command_in
returns-clause-same c =
    let form = form_in c.args.body.now in
    let words = c.args.words in
    IfOk-weaker c.command_at.result _ _
    (λ asked is.
    is ∙ ap (λ d. command_at c.args.edit.now d form words) c.brief_in-value.ensures ∙ same_command c.args.edit.now (object_in c.args.body.now) form words)
    c.command_at.ensures

pub returns-clause-right : goal.returns-clause-right
returns-clause-right c =
    IfOk-weaker c.command_at.result _ _
    (λ asked is. subst IsRight (sym is) (command_right c.args.edit.now (view c.brief_in-value.result.now) (form_in c.args.body.now) c.args.words c.walk.ensures))
    c.command_at.ensures
