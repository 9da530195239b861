use Rattle.std.proofs.Common.{sym, ◌∙◌}
use Rattle.std.proofs.lemmas.Result.{IfOk-weaker}
use Rattle.content_state.proofs.Faults.{first_required, found_later}
use Rattle.content_state.proofs.site_rules.first_fault.Goals as goal

pub returns-in-Some : goal.returns-in-Some
returns-in-Some c = first_required c.args.state.now.rows c.in-Some.fault (sym c.in-Some.ensures)

pub returns-in-None : goal.returns-in-None
returns-in-None c = IfOk-weaker c.later_fault.result _ _
    (λ found is. found_later c.args.state.now.rows found c.later_fault.ensures.in_order (sym c.required_fault.ensures ∙ c.in-None.is) is)
    c.later_fault.ensures.first
