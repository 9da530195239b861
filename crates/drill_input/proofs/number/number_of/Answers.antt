use Rattle.std.proofs.Common.{rules, ◌≡◌, true, false, sym, ◌∙◌, decimal}
use Rattle.std.specs.String.{string_bytes}
use Rattle.std.specs.Str.{bytes_eq}
use Rattle.std.proofs.lemmas.Slice.Eq.{bytes_eq-Decides}
use Rattle.drill_input.proofs.Numbers.{not_parsed, other_text}
use Rattle.drill_input.proofs.number.number_of.Goals as goal

pub returns-in_default : goal.returns-in_default
returns-in_default c = sym (not_parsed c.args.text.now c.parse.result c.parse.ensures.value.0 c.in_default.not-Ok)

pub returns : goal.returns
returns c =
    let written : string_bytes c.in_ok-written.written ≡ decimal c.in-Ok.number = search rules in
    let apart : bytes_eq c.as_bytes.result.now c.as_bytes-2.result.now ≡ false = sym c.eq.ensures ∙ c.if-eq.false in
    sym (other_text c.args.text.now c.in-Ok.number c.parse.result c.parse.ensures.value.0 c.in-Ok.is (λ is.
    let same : c.as_bytes.result.now ≡ c.as_bytes-2.result.now = c.as_bytes.ensures.value ∙ written ∙ sym is ∙ sym c.as_bytes-2.ensures.value in
    let alike : true ≡ false = sym ((bytes_eq-Decides c.as_bytes.result.now c.as_bytes-2.result.now).1 same) ∙ apart in
    absurd (cc)))
