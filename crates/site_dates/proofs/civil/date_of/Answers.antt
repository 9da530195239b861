-- The date that jiff computes is the one that the days since 1970 lead to.
use Rattle.std.proofs.Common.{◌≡◌, ◌≤◌, ◌/◌, pos, ap, ◌∙◌, arith}
use Rattle.jiff_core.proofs.SignedLemmas.{signed_arith}
use Rattle.site_dates.specs.Dates.{date_at}
use Rattle.site_dates.proofs.DayNumbers.{date_of_clock, date_of_parts}
use Rattle.site_dates.proofs.civil.date_of.Goals as goal

pub overflow_cast-result : goal.overflow_cast-result
overflow_cast-result c =
    let low : c.min.result ≤ 4_102_444_800 = omega arith in
    let same = date_of_clock c.min.result c.shown_at.result low c.shown_at.ensures in
    let year : c.year.result ≡ pos (date_at (c.min.result / 86_400)).year = c.year.ensures ∙ ap (λ d. d.year) c.date-date.ensures ∙ same.year in
    omega (arith, signed_arith)

pub returns-clause-same : goal.returns-clause-same
returns-clause-same c =
    let low : c.min.result ≤ 4_102_444_800 = omega arith in
    date_of_parts c.min.result c.shown_at.result c.year.result c.month.result c.day.result low c.shown_at.ensures (cc) (cc) (cc)
    ∙ ap (λ n. date_at (n / 86_400)) c.min.ensures
