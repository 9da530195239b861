use Rattle.std.proofs.Common.{◌≡◌, ◌∙◌, ap, sym, rules}
use Rattle.std.proofs.lemmas.Bool.{false_from_ne_true}
use Rattle.std.proofs.lemmas.Result.{IfOk-weaker}
use Rattle.std.proofs.lemmas.Str.{is_utf8-from_IsUtf8, IsUtf8-from_is_utf8}
use Rattle.serde_json.specs.Data.{string, null}
use Rattle.serde_json.specs.View.{view}
use Rattle.serde_json.specs.declared.value.Value.{Null, the_lemmas}
use Rattle.row_kinds.proofs.Utf8.{text_written, text_lost}
use Rattle.row_kinds.proofs.field.text_value.Goals as goal

pub returns-in-Ok : goal.returns-in-Ok
returns-in-Ok c =
    let h = c.in-Ok.ensures.cases in
    IfOk-weaker c.try_from_str.result _ _ (λ v e. e ∙ ap string h.0 ∙ sym (text_written c.args.text.now (is_utf8-from_IsUtf8 c.args.text.now h.1))) c.try_from_str.ensures

pub returns-in-Err : goal.returns-in-Err
returns-in-Err c =
    let h = c.in-Err.ensures.cases in
    let n : view Null ≡ null = search (rules, the_lemmas) in
    n ∙ sym (text_lost c.args.text.now (false_from_ne_true _ (λ yes. h.0 (IsUtf8-from_is_utf8 c.args.text.now yes))))
