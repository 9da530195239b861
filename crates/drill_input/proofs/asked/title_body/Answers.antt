use Rattle.std.proofs.Common.{ℕ, List, ◌≡◌, ◌∙◌, ◌++◌, ap}
use Rattle.std.proofs.lemmas.Result.{IfOk-weaker}
use Rattle.std.specs.Prelude.{codes}
use Rattle.std.specs.Fmt.{decimal}
use Rattle.drill_input.specs.Asked.{title_body}
use Rattle.drill_input.proofs.asked.title_body.Goals as goal

pub returns : goal.returns
unfolding title_body
returns c =
    let digits : c.as_bytes.result.now ≡ decimal c.args.version = c.as_bytes.ensures.value ∙ c.in_ok-digits.ensures.ok in
    let with = λ (d : List ℕ). codes "{\"title\":\"m" ++ decimal c.args.title ++ codes "\",\"vid\":" ++ d ++ codes "}" in
    IfOk-weaker c.with_bytes.result _ _
    (λ t e. e ∙ ap with digits)
    (c.with_bytes.ensures _
    (c.with_bytes-body-2.ensures _
    (c.with_bytes-body.ensures _
    c.numbered-body.ensures)))
