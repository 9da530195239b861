use Rattle.std.proofs.Common.{refl, sym, ◌∙◌, ap}
use Rattle.render_canvas.proofs.Run.{varied, where_ok}
use Rattle.render_canvas.proofs.canvas.Canvas.context.Goals as goal

pub returns-else-is_err : goal.returns-else-is_err
returns-else-is_err c =
    let no_error = sym c.is_err.ensures.value ∙ c.if-is_err.false in
    rw (← c.self.view_is)
    (varied c.args.context _ _ refl refl refl refl (ap (λ x. x.tags) (where_ok _ no_error c.add_context.ensures.ok)) refl
    (ap (λ x. x.max_age) (where_ok _ no_error c.add_context.ensures.ok))
    (where_ok _ no_error c.add_context.ensures.exactly))
