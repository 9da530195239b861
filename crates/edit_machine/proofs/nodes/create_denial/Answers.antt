use Rattle.std.proofs.Common.{◌≡◌, sym, ap, ◌∙◌, Some, None}
use Rattle.std.proofs.lemmas.Result.{IfOk-weaker}
use Rattle.site_access.specs.Access.{access_to_create}
use Rattle.site_commands.specs.Causes.{unless_allowed}
use Rattle.site_commands.specs.Fields.{key_denials, field_denials}
use Rattle.edit_machine.specs.First.{first_cause}
use Rattle.edit_machine.proofs.Decided.{second_refuses, third_decides}
use Rattle.edit_machine.proofs.nodes.create_denial.Goals as goal

pub returns-in-Some-2 : goal.returns-in-Some-2
returns-in-Some-2 c rows account =
    let viewer = c.args.account.now.viewer in
    let keys = c.args.keys.now in
    let cause = unless_allowed (access_to_create rows viewer c.args.name.now) in
    let none : cause ≡ None = sym (c.in_ok-refusal.ensures rows account) ∙ c.in_default.is in
    second_refuses cause (key_denials rows viewer keys) (field_denials rows viewer viewer.uid (Some c.args.node_type.now) keys.fields) c.in-Some-2.refusal none (sym (c.in_ok-refusal-2.ensures rows account) ∙ c.in-Some-2.is)

pub returns : goal.returns
returns c =
    let viewer = c.args.account.now.viewer in
    let keys = c.args.keys.now in
    IfOk-weaker c.fields_denial.result _ _
    (λ denial denies. λ rows account.
    let cause = unless_allowed (access_to_create rows viewer c.args.name.now) in
    let fields = field_denials rows viewer viewer.uid (Some c.args.node_type.now) keys.fields in
    let none : cause ≡ None = sym (c.in_ok-refusal.ensures rows account) ∙ c.in_default.is in
    let passed : first_cause (key_denials rows viewer keys) ≡ None = sym (c.in_ok-refusal-2.ensures rows account) ∙ c.in_default-2.is in
    denies rows account ∙ ap (λ names. first_cause (field_denials rows viewer viewer.uid (Some c.args.node_type.now) names)) c.as_slice-names.ensures ∙ third_decides cause (key_denials rows viewer keys) fields none passed)
    c.fields_denial.ensures
