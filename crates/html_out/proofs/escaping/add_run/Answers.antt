use Rattle.std.proofs.Common.{◌≡◌, ◌++◌, slice_index, ◌<◌, length, take, ap, sym, ◌∙◌, append_assoc, arith}
use Rattle.html_out.specs.Escape.{escaped, escaped_byte}
use Rattle.html_out.proofs.Runs.{escaped-more}
use Rattle.html_out.proofs.escaping.add_run.Goals as goal

pub returns-clause-ok : goal.returns-clause-ok
returns-clause-ok c =
    let text = c.args.text.now in
    let n = c.plain_front-plain.result in
    let within : n < length text = omega (arith, c.plain_front-plain.ensures.within, c.if-plain-text.false) in
    let front : c.extend_from_slice.new.self.items ≡ c.args.out.now.items ++ escaped (take n text) =
    c.in_ok-extend_from_slice.ensures.items ∙ ap (λ l. c.args.out.now.items ++ l) (sym c.plain_front-plain.ensures.plain) in
    c.in_ok-add_escaped_byte.ensures.ok
    ∙ ap (λ l. l ++ escaped_byte (slice_index text n)) front
    ∙ append_assoc c.args.out.now.items (escaped (take n text)) (escaped_byte (slice_index text n))
    ∙ ap (λ l. c.args.out.now.items ++ l) (sym (escaped-more text n 0 within))
