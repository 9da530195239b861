use Rattle.std.proofs.Common.{ℕ, ◌≡◌, sym, ◌∙◌, ap}
use Rattle.std.specs.Prelude.{Ok}
use Rattle.std.specs.Fmt.{decimal}
use Rattle.std.proofs.lemmas.Fmt.{parse-decimal}
use Rattle.keeper_sqlite.proofs.Heads.{head_none, head_is_utf8}
use Rattle.keeper_sqlite.proofs.number.head_in.Goals as goal

pub returns-in_default : goal.returns-in_default
returns-in_default c =
    head_none c.args.text.now (λ n is small. c.in_default.ensures.cases.0 (head_is_utf8 c.args.text.now n is small))

pub returns-in_default-parse : goal.returns-in_default-parse
returns-in_default-parse c =
    let same : c.in-Ok.digits.now ≡ c.args.text.now = c.in-Ok.ensures.cases.0 in
    head_none c.args.text.now (λ n is small. c.in_default-parse.not-Ok n (parse-decimal 64 n c.in-Ok.digits.now c.parse.result small small (same ∙ is) c.parse.ensures.value.0))

pub returns : goal.returns
returns c =
    let same : c.in-Ok.digits.now ≡ c.args.text.now = c.in-Ok.ensures.cases.0 in
    head_none c.args.text.now (λ n is small.
    let parsed : c.parse.result ≡ Ok n = parse-decimal 64 n c.in-Ok.digits.now c.parse.result small small (same ∙ is) c.parse.ensures.value.0 in
    let here : c.in-Ok-parse.head ≡ n = (let was = c.in-Ok-parse.is in cc) in
    let text : c.as_bytes.result.now ≡ c.args.text.now = c.as_bytes.ensures.value ∙ c.in_ok-written.ensures.ok ∙ ap (λ (k : ℕ). decimal k) here ∙ sym is in
    let yes = c.are_same.ensures.1 text in
    let no = c.if-are_same.false in
    absurd cc)
