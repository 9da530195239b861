-- The time that jiff computes is what is left of the seconds.
use Rattle.std.proofs.Common.{◌≤◌, ◌%◌, ap, ◌∙◌, arith}
use Rattle.site_dates.specs.Dates.{time_at}
use Rattle.site_dates.proofs.DayNumbers.{time_of_parts}
use Rattle.site_dates.proofs.civil.time_of.Goals as goal

pub returns-clause-same : goal.returns-clause-same
returns-clause-same c =
    let low : c.min.result ≤ 4_102_444_800 = omega arith in
    time_of_parts c.min.result c.shown_at.result c.hour.result c.minute.result c.second.result c.shown_at.ensures low (cc) (cc) (cc)
    ∙ ap (λ n. time_at (n % 86_400)) c.min.ensures
