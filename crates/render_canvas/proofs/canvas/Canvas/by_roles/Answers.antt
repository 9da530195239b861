use Rattle.std.proofs.Common.{subst, length, ◌<◌, ◌≤◌}
use Rattle.render_canvas.proofs.Noted.{no_roles, some_roles}
use Rattle.render_canvas.proofs.canvas.Canvas.by_roles.Goals as goal

pub returns-in-empty : goal.returns-in-empty
returns-in-empty c = no_roles _ (subst (λ l. length l < 1) c.as_slice.ensures c.in-empty.len_below)

pub returns-in-len1-up : goal.returns-in-len1-up
returns-in-len1-up c =
    some_roles _ (subst (λ l. 1 ≤ length l) c.as_slice.ensures c.in-len1-up.len_at_least) c.context.ensures
