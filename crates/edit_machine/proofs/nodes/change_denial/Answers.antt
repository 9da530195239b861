use Rattle.std.proofs.Common.{◌≡◌, sym, ap, ◌∙◌, None, option_copied}
use Rattle.std.proofs.lemmas.Result.{IfOk-weaker}
use Rattle.cacheability.specs.declared.op.Op.TheVariants as op
use Rattle.indexed_rows.specs.Rows.{type_of}
use Rattle.site_access.specs.Access.{access_to_node}
use Rattle.site_commands.specs.Causes.{unless_allowed}
use Rattle.site_commands.specs.Fields.{key_denials, field_denials}
use Rattle.edit_machine.specs.First.{first_cause}
use Rattle.edit_machine.proofs.Decided.{second_refuses, third_decides}
use Rattle.edit_machine.proofs.nodes.change_denial.Goals as goal

pub returns-in-Some-2 : goal.returns-in-Some-2
returns-in-Some-2 c =
    let rows = c.args.state.now.rows in
    let viewer = c.args.account.now.viewer in
    let node = c.args.node.now in
    let keys = c.args.keys.now in
    let cause = unless_allowed (access_to_node rows viewer op.Update c.args.nid) in
    let none : cause ≡ None = sym c.in_ok-refusal.ensures ∙ c.in_default.is in
    second_refuses cause (key_denials rows viewer keys) (field_denials rows viewer node.uid (type_of rows node.node_type) keys.fields) c.in-Some-2.refusal none (sym (c.in_ok-refusal-2.ensures rows c.requires.account) ∙ c.in-Some-2.is)

pub returns : goal.returns
returns c =
    let rows = c.args.state.now.rows in
    let viewer = c.args.account.now.viewer in
    let node = c.args.node.now in
    let keys = c.args.keys.now in
    let cause = unless_allowed (access_to_node rows viewer op.Update c.args.nid) in
    let fields = field_denials rows viewer node.uid (type_of rows node.node_type) keys.fields in
    let none : cause ≡ None = sym c.in_ok-refusal.ensures ∙ c.in_default.is in
    let passed : first_cause (key_denials rows viewer keys) ≡ None = sym (c.in_ok-refusal-2.ensures rows c.requires.account) ∙ c.in_default-2.is in
    IfOk-weaker c.fields_denial.result _ _
    (λ denial denies. denies rows c.requires.account ∙ ap (λ names. first_cause (field_denials rows viewer node.uid (option_copied c.node_type.result.0) names)) c.as_slice.ensures ∙ ap (λ type. first_cause (field_denials rows viewer node.uid type keys.fields)) c.node_type.ensures.row ∙ third_decides cause (key_denials rows viewer keys) fields none passed)
    c.fields_denial.ensures
