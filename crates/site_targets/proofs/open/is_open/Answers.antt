use Rattle.site_targets.proofs.Passing.{opens_path}
use Rattle.site_targets.proofs.open.is_open.Goals as goal

pub returns : goal.returns
returns c =
    let access = c.in_ok-access.access in
    opens_path c.args.state.now.rows c.args.path.now c.args.account.now.viewer c.in_ok-route.route access.cacheability access c.allowed.result c.requires.viewer_is c.in_ok-route.ensures.leads.0 c.in_default.not-Nothing c.in_ok-access.ensures.answer c.allowed.ensures
