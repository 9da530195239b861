use Rattle.std.proofs.Common.{◌≡◌, ◌∙◌, sym, subst}
use Rattle.std.specs.Arc.{arc_value}
use Rattle.std.proofs.lemmas.Result.{IfOk-weaker}
use Rattle.content_state.specs.SiteRules.{IsValidState}
use Rattle.site_hall.specs.Within.{side_of}
use Rattle.site_hall.proofs.Logs.{valid_without, valid_newest}
use Rattle.site_hall.proofs.hall.Hall.snapshot.Goals as goal

pub returns-clause-valid : goal.returns-clause-valid
returns-clause-valid c =
    let log = c.self.inside.log in
    let hall = side_of log c.self.inside.pending c.self.inside.stock in
    let valid = valid_newest log.base log.edits (valid_without log.base log.edits hall.pending c.self.invariant.is_hall.valid) in
    IfOk-weaker c.try_clone.result (λ state. arc_value state ≡ arc_value c.newest.result.now) (λ state. IsValidState (arc_value state))
    (λ state same. subst IsValidState (sym (same ∙ c.newest.ensures.newest)) valid) c.try_clone.ensures
