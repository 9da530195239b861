use Rattle.std.proofs.Common.{◌≡◌, ◌∙◌, subst}
use Rattle.std.specs.Result.{IfOk}
use Rattle.content_state.specs.Plan.{write}
use Rattle.render_array.specs.Json.{told}
use Rattle.render_canvas.proofs.Run.{next, done, over_text, failed}
use Rattle.render_array.proofs.json.told.Goals as goal

pub returns-in-Ok : goal.returns-in-Ok
unfolding told
returns-in-Ok c bytes is = next _ (over_text write c.write.ensures (c.as_slice.ensures.value ∙ subst (λ text. IfOk text (λ t. t.items ≡ bytes)) c.in-Ok.is is)) done

pub returns-in-Err : goal.returns-in-Err
returns-in-Err c bytes is = failed _ _ c.fail.ensures
