use Rattle.std.proofs.Common.{[], ap, subst, sym, map}
use Rattle.render_canvas.specs.Canvas.{Renders}
use Rattle.content_state.specs.Plan.{Done}
use Rattle.render_canvas.proofs.Run.{given_by}
use Rattle.render_array.proofs.json_nodes.shown_fields.Goals as goal

pub returns-in-Some : goal.returns-in-Some
returns-in-Some c = rw c.in-Some.is c.shown_fields_of_type.ensures

pub returns-in-None : goal.returns-in-None
returns-in-None c = rw c.in-None.is (given_by (sym (ap (map (λ value. value.now)) c.new.ensures.items)))
