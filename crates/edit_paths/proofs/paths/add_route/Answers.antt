use Rattle.matchit.specs.Route.{parse_route}
use Rattle.edit_paths.specs.Routes.{with_route}
use Rattle.edit_paths.proofs.Added.{added}
use Rattle.edit_paths.proofs.paths.add_route.Goals as goal

pub returns : goal.returns
unfolding with_route
returns c = added (parse_route c.args.route.now) c.args.about c.args.router.now c.insert.new.self c.in-Ok.ensures
