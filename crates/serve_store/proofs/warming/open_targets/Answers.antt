use Rattle.std.proofs.Common.{◌≡◌, ◌∙◌, subst}
use Rattle.std.specs.Prelude.{IfOk}
use Rattle.content_state.specs.State.{State}
use Rattle.site_targets.specs.Targets.{targets_of}
use Rattle.serve_store.proofs.Warmings.{newest_base, newest_rows}
use Rattle.serve_store.proofs.warming.open_targets.Goals as goal

pub targets-requires : goal.targets-requires
targets-requires g c = newest_rows c.args.hall.now c.deref-state.result.now c.requires (c.deref-state.ensures ∙ c.in_ok-newest.ensures)

pub returns : goal.returns
returns g c =
    subst (λ (s : State). IfOk c.targets.result (λ targets. targets.items ≡ targets_of s.rows))
    (newest_base c.args.hall.now c.deref-state.result.now c.requires (c.deref-state.ensures ∙ c.in_ok-newest.ensures)) c.targets.ensures.exactly
