use Rattle.std.proofs.Common.{ap, ◌∙◌}
use Rattle.site_access.specs.Access.{access_to_create}
use Rattle.site_access.specs.Plans.{create_access}
use Rattle.site_access.specs.Depends.{told, by_permissions}
use Rattle.site_access.proofs.PlansDecide.{create_read}
use Rattle.site_access.proofs.WholeResults.{both_ok, decided_is}
use Rattle.site_access.proofs.account.Account.create_access.Goals as goal

pub returns-clause-covered : goal.returns-clause-covered
returns-clause-covered c =
    let viewer = c.args.self.now.viewer in
    let type = c.args.node_type.now in
    both_ok c.decide_creation.result _ _ _ (λ r answer depends. λ rows account. decided_is (create_access type) rows viewer (access_to_create rows viewer type) by_permissions r (λ ask moment. create_read type (record { rows = rows; viewer = viewer; ask = ask; moment = moment })) (answer rows account ∙ ap (told (access_to_create rows viewer type)) depends)) c.decide_creation.ensures.answer c.decide_creation.ensures.depends
