-- Civil dates and times of moments, in seconds since 1970-01-01T00:00:00Z, and their texts.
-- https://www.rfc-editor.org/rfc/rfc3339#section-5.6
use Rattle.std.specs.Prelude.{ℕ, zero, suc, ◌+◌, ◌/◌, ◌%◌, List, [], ◌∷◌, ◌++◌, pos, min, nat_lt, if◌then◌else◌, codes}
use Rattle.jiff.specs.Words.{days_in_month}
use Rattle.site_dates.specs.declared.civil.CivilDate.{CivilDate}
use Rattle.site_dates.specs.declared.civil.ClockTime.{ClockTime}

-- the day after a date: the next of its month, else the first of the next month, else the first of the next year
abbrev pub day_after : CivilDate → CivilDate
day_after d =
    if nat_lt d.day (days_in_month (pos d.year) d.month)
    then record { year = d.year; month = d.month; day = d.day + 1 }
    else (if nat_lt d.month 12
    then record { year = d.year; month = d.month + 1; day = 1 }
    else record { year = d.year + 1; month = 1; day = 1 })

-- the date so many days after 1970-01-01
unfoldable pub date_at : ℕ → CivilDate
date_at zero = record { year = 1970; month = 1; day = 1 }
date_at (suc n) = day_after (date_at n)

-- the time of day so many seconds after midnight
abbrev pub time_at : ℕ → ClockTime
time_at n = record { hour = n / 3600; minute = n / 60 % 60; second = n % 60 }

-- a moment as it is shown: one after 2100-01-01T00:00:00Z as that
abbrev pub shown_moment : ℕ → ℕ
shown_moment moment = min moment 4_102_444_800

-- the date of a moment
abbrev pub date_of_moment : ℕ → CivilDate
date_of_moment moment = date_at (shown_moment moment / 86_400)

-- the time of day of a moment
abbrev pub time_of_moment : ℕ → ClockTime
time_of_moment moment = time_at (shown_moment moment % 86_400)

-- a number below 100 in two digits
abbrev pub two_digits : ℕ → List ℕ
two_digits n = (48 + n / 10) ∷ (48 + n % 10) ∷ []

-- a number below 10,000 in four digits
abbrev pub four_digits : ℕ → List ℕ
four_digits n = two_digits (n / 100) ++ two_digits (n % 100)

-- a date as `2000-02-29`
abbrev pub digits_of_date : CivilDate → List ℕ
digits_of_date d = four_digits d.year ++ codes "-" ++ two_digits d.month ++ codes "-" ++ two_digits d.day

-- a time of day as `23:59:59`
abbrev pub digits_of_time : ClockTime → List ℕ
digits_of_time t = two_digits t.hour ++ codes ":" ++ two_digits t.minute ++ codes ":" ++ two_digits t.second

-- the date of a moment as a page shows it
unfoldable pub date_text_of : ℕ → List ℕ
date_text_of moment = digits_of_date (date_of_moment moment)

-- the date and the time of a moment as a page shows them
unfoldable pub moment_text_of : ℕ → List ℕ
moment_text_of moment =
    date_text_of moment ++ codes "T" ++ digits_of_time (time_of_moment moment) ++ codes "Z"
