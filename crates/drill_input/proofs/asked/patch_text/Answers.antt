use Rattle.std.proofs.Common.{ℕ, List, ◌≡◌, ◌∙◌, ◌++◌, ap, length}
use Rattle.std.proofs.lemmas.Result.{IfOk-weaker}
use Rattle.std.specs.Prelude.{codes}
use Rattle.std.specs.Fmt.{decimal}
use Rattle.drill_input.specs.Asked.{patch_text, session_lines}
use Rattle.drill_input.proofs.asked.patch_text.Goals as goal

pub returns : goal.returns
unfolding patch_text session_lines
returns c =
    let digits : c.as_bytes.result.now ≡ decimal (length c.args.body.now) = c.as_bytes.ensures.value ∙ c.in_ok-digits.ensures.ok in
    let with = λ (d : List ℕ). codes "PATCH /node/" ++ decimal c.args.node ++ codes " HTTP/1.1\r\n" ++ session_lines
    ++ codes "Content-Type: application/json\r\nContent-Length: " ++ d ++ codes "\r\n\r\n" ++ c.args.body.now in
    IfOk-weaker c.with_bytes.result _ _
    (λ t e. e ∙ ap with digits)
    (c.with_bytes.ensures _
    (c.with_bytes-text-5.ensures _
    (c.with_bytes-text-4.ensures _
    (c.with_bytes-text-3.ensures _
    (c.with_bytes-text-2.ensures _
    (c.with_bytes-text.ensures _
    c.numbered-text.ensures))))))
