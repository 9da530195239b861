use Rattle.std.proofs.Common.{◌∙◌, sym, ap}
use Rattle.drill_input.specs.Asked.{and_request}
use Rattle.drill_input.proofs.Folds.{next_asked}
use Rattle.drill_input.proofs.asked.requests_after.Goals as goal

pub requests-preserved : goal.requests-preserved
requests-preserved c = c.in_ok-add_one.ensures ∙ ap and_request c.requests.invariant ∙ sym (next_asked c.requests._index c.args.draws)
