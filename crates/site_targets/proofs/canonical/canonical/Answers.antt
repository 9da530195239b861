use Rattle.content_state.specs.Route.{login_path}
use Rattle.site_targets.proofs.ByKinds.{all_rows}
use Rattle.site_targets.proofs.canonical.canonical.Goals as goal

pub returns : goal.returns
unfolding login_path
returns c =
    all_rows c.args.state.now.rows c.rows.cell-iterator c.rows.targets.items c.push-2.new.self.items c.in_ok-copied-2.field-0 c.rows.invariant.ordered c.in-None.ensures.steps.0 c.rows.invariant.so_far c.in_ok-copied-2.ensures c.in_ok-push-3.ensures.items
