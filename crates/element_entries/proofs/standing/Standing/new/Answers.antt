use Rattle.std.proofs.Common.{◌∙◌, ap, map}
use Rattle.content_state.specs.declared.ask.Viewer.{Viewer}
use Rattle.cache_contexts.specs.Values.{visit_on, valued}
use Rattle.element_entries.specs.Keys.{required}
use Rattle.element_entries.proofs.standing.Standing.new.Goals as goal

pub returns : goal.returns
returns c =
    let state = c.args.state.now in
    record {
      account = c.in_ok-account.ensures;
      values = λ ask moment.
          c.in_ok-required_values.ensures ∙ c.in_ok-found.ensures moment
          ∙ ap (map (valued (visit_on state c.in_ok-account.account.viewer c.args.ask.now moment))) (c.as_slice.ensures ∙ c.first_contexts-required.ensures)
          ∙ ap (λ (w : Viewer). map (valued (visit_on state w c.args.ask.now moment)) required) c.in_ok-account.ensures.viewer_is;
    }
