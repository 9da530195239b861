use Rattle.std.proofs.Common.{◌∙◌, ap, arith}
use Rattle.content_state.specs.State.{State}
use Rattle.site_house.specs.History.{newest_of}
use Rattle.site_hall.specs.Log.{Log}
use Rattle.site_hall.proofs.Logs.{number_in}
use Rattle.site_hall.proofs.log.Log.number.Goals as goal

pub returns-clause-number : goal.returns-clause-number
returns-clause-number c =
    c.number.ensures ∙ ap (λ (s : State). s.number) c.deref.ensures ∙ number_in c.self.invariant
    ∙ ap (λ (l : Log). newest_of l.base l.edits) c.self.view_is

pub returns-clause-small : goal.returns-clause-small
returns-clause-small c =
    let number = c.number.ensures ∙ ap (λ (s : State). s.number) c.deref.ensures ∙ number_in c.self.invariant in
    let short = c.self.invariant.short in
    let small = c.self.invariant.small in
    omega arith
