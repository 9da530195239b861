-- The digits are those of the date.
use Rattle.std.proofs.Common.{ap, ◌∙◌}
use Rattle.std.proofs.lemmas.Result.{IfOk-weaker}
use Rattle.site_dates.specs.Dates.{date_text_of, digits_of_date}
use Rattle.site_dates.proofs.text.date_text.Goals as goal

pub returns : goal.returns
unfolding date_text_of
returns c =
    IfOk-weaker c.from_slice.result _ _ (λ v e. e ∙ c.date_digits.ensures ∙ ap digits_of_date c.date_of.ensures.same) c.from_slice.ensures.items
