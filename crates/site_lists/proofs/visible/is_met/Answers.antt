use Rattle.std.proofs.Common.{◌∙◌, ap}
use Rattle.std.specs.List.{list_any}
use Rattle.indexed_rows.specs.Rows.{user_of}
use Rattle.site_lists.specs.Visible.{has_role}
use Rattle.site_lists.proofs.Roles.{met_by_names}
use Rattle.site_lists.proofs.visible.is_met.Goals as goal

pub returns : goal.returns
returns c =
    c.has_one.ensures
    ∙ ap (λ own. list_any (has_role c.args.viewer.now.uid own) c.args.roles.now) c.own_roles.ensures
    ∙ met_by_names c.args.viewer.now.uid (user_of c.args.state.now.rows c.args.viewer.now.uid) c.args.roles.now
