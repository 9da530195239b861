use Rattle.edit_paths.specs.Routes.{post_rows}
use Rattle.edit_paths.proofs.paths.add_posts.Goals as goal

pub returns : goal.returns
unfolding post_rows
returns c =
    rw (c.in_ok-add_route.ensures, c.in_ok-add_actions.ensures, c.in_ok-add_config.ensures, c.in_ok-add_content.ensures, c.requires)
