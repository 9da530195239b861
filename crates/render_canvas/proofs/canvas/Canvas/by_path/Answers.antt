use Rattle.std.proofs.Common.{◌∙◌, ap, subst, length, ◌<◌, ◌≤◌}
use Rattle.site_lists.specs.Visible.{names_front}
use Rattle.render_canvas.proofs.Noted.{no_paths, some_paths}
use Rattle.render_canvas.proofs.canvas.Canvas.by_path.Goals as goal

pub returns-in-empty : goal.returns-in-empty
returns-in-empty c = no_paths _ _ (subst (λ l. length l < 1) c.as_slice.ensures c.in-empty.len_below)

pub returns-in-len1-up : goal.returns-in-len1-up
returns-in-len1-up c =
    some_paths _ _ _ (subst (λ l. 1 ≤ length l) c.as_slice.ensures c.in-len1-up.len_at_least) c.context.ensures
    (c.names_front.ensures ∙ ap names_front c.as_slice-in-len1-up.ensures) c.by_front.ensures
