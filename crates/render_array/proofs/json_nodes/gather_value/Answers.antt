use Rattle.std.proofs.Common.{sym, ◌∙◌}
use Rattle.render_array.proofs.Gathered.{pushed_seen}
use Rattle.render_canvas.proofs.Run.{failed, given_by}
use Rattle.render_array.proofs.json_nodes.gather_value.Goals as goal

pub returns-then-is_err : goal.returns-then-is_err
returns-then-is_err c = failed _ _ c.fail.ensures

pub returns-else-is_err : goal.returns-else-is_err
returns-else-is_err c =
    given_by (pushed_seen (λ value. value.now) c.push.result _ _ (sym c.is_err.ensures.value ∙ c.if-is_err.false) c.push.ensures.items)
