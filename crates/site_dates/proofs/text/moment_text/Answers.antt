-- Each piece is written after the last.
use Rattle.std.proofs.Common.{[], ◌∷◌, ◌++◌, ap, ◌∙◌}
use Rattle.site_dates.specs.Dates.{moment_text_of, date_text_of, digits_of_time}
use Rattle.site_dates.proofs.text.moment_text.Goals as goal

pub returns : goal.returns
unfolding moment_text_of
returns c =
    let time = c.time_digits.ensures ∙ ap digits_of_time c.time_of.ensures.same in
    let front = c.in_ok-push.ensures.items ∙ ap (λ xs. xs ++ 84 ∷ []) c.in_ok-text.ensures in
    let whole = c.in_ok-extend_from_slice.ensures.items ∙ ap (λ xs. xs ++ c.time_digits.result) front ∙ ap (λ xs. date_text_of c.args.moment ++ 84 ∷ [] ++ xs) time in
    c.in_ok-push-2.ensures.items ∙ ap (λ xs. xs ++ 90 ∷ []) whole
