-- The nth day after 1970-01-01 is the date whose day number is n.
use Rattle.std.proofs.Common.{◌≡◌, ℕ, zero, suc, ◌+◌, ◌*◌, ◌/◌, ◌%◌, ◌^◌, ◌<◌, ◌≤◌, Bool, true, false, nat_lt, if◌then◌else◌, refl, sym, ap, ◌∙◌, arith, ℤ, pos, unsigned_abs, to_z, of_z, w8, w16}
use Rattle.std.proofs.lemmas.Bool.{ltb-true, ltb-false}
use Rattle.std.proofs.lemmas.Int.{by_lt_z}
use Rattle.std.specs.Int.{Width}
use mir.Val.{hbits}
use Rattle.jiff.specs.Words.{days_in_month, civil_nanos, epoch_day, time_nanos}
use Rattle.jiff.specs.Types.{Date, DateTime, Time}
use Rattle.jiff_core.specs.Calendar.{days_from_civil}
use Rattle.jiff_core.proofs.SignedLemmas.{signed_arith, back_small}
use Rattle.jiff_core.proofs.CalendarLemmas.{days_in_month_bounds, days_from_civil-day_count, day_count-epoch, day_count-lt_year}
use Rattle.jiff_core.proofs.DateLemmas.{days_from_civil-day, days_from_civil-next_month, days_from_civil-next_year, days_from_civil-max, epoch_day_injective}
use Rattle.jiff_core.proofs.DateTimeLemmas.{civil_nanos-parts, time_nanos_bound}
use Rattle.site_dates.specs.declared.civil.CivilDate.{CivilDate}
use Rattle.site_dates.specs.Dates.{day_after, date_at, time_at}

-- the calendar has this date, and n is its day number
pub record IsNumbered (n : ℕ) (d : CivilDate) : Type 0 where
  pub month_in : (1 ≤ d.month) × (d.month ≤ 12)
  pub day_in : (1 ≤ d.day) × (d.day ≤ days_in_month (pos d.year) d.month)
  pub number : days_from_civil (pos d.year) d.month d.day ≡ pos n

-- the three cases of the day after, by the two tests
next_day : (n : ℕ) (d : CivilDate) → IsNumbered n d → d.day < days_in_month (pos d.year) d.month → IsNumbered (suc n) (record { year = d.year; month = d.month; day = d.day + 1 })
next_day n d h lt = record {
  month_in = h.month_in;
  day_in = omega (arith, h.day_in);
  number = omega (arith, signed_arith, h.number, days_from_civil-day (pos d.year) d.month (d.day + 1) d.day (omega arith) h.day_in.0);
}

next_month : (n : ℕ) (d : CivilDate) → IsNumbered n d → days_in_month (pos d.year) d.month ≤ d.day → d.month < 12 → IsNumbered (suc n) (record { year = d.year; month = d.month + 1; day = 1 })
next_month n d h last lt = record {
  month_in = omega (arith, h.month_in);
  day_in = omega (arith, days_in_month_bounds (pos d.year) (d.month + 1));
  number = omega (arith, signed_arith, h.number, days_from_civil-next_month (pos d.year) d.month d.day h.month_in.0 (omega (arith, h.day_in)));
}

-- the last day of a twelfth month is its 31st
december : (y m d : ℕ) → m ≤ 12 → 12 ≤ m → d ≤ days_in_month (pos y) m → days_in_month (pos y) m ≤ d → (m ≡ 12) × (d ≡ 31)
december y m d high low within last = grind arith

next_year : (n : ℕ) (d : CivilDate) → IsNumbered n d → days_in_month (pos d.year) d.month ≤ d.day → 12 ≤ d.month → IsNumbered (suc n) (record { year = d.year + 1; month = 1; day = 1 })
next_year n d h last top =
    let end = december d.year d.month d.day h.month_in.1 top h.day_in.1 last in
    let number : days_from_civil (pos d.year) 12 31 ≡ pos n = rw end.0 at (rw end.1 at h.number) in
    record {
      month_in = omega arith;
      day_in = omega (arith, days_in_month_bounds (pos (d.year + 1)) 1);
      number = omega (arith, signed_arith, days_from_civil-next_year (pos d.year) (pos (d.year + 1)) (omega (arith, signed_arith)) (omega (arith, signed_arith)));
    }

-- the day after, by its two tests
by_tests : (n : ℕ) (d : CivilDate) → IsNumbered n d → (within early : Bool) → nat_lt d.day (days_in_month (pos d.year) d.month) ≡ within → nat_lt d.month 12 ≡ early → IsNumbered (suc n) (if within then record { year = d.year; month = d.month; day = d.day + 1 } else (if early then record { year = d.year; month = d.month + 1; day = 1 } else record { year = d.year + 1; month = 1; day = 1 }))
by_tests n d h true _ within _ = next_day n d h (ltb-true _ _ within)
by_tests n d h false true last early = next_month n d h (ltb-false _ _ last) (ltb-true _ _ early)
by_tests n d h false false last late = next_year n d h (ltb-false _ _ last) (ltb-false _ _ late)

day_after-number : (n : ℕ) (d : CivilDate) → IsNumbered n d → IsNumbered (suc n) (day_after d)
day_after-number n d h = by_tests n d h _ _ refl refl

-- the nth day has the day number n
pub date_at-number : (n : ℕ) → IsNumbered n (date_at n)
unfolding date_at
date_at-number zero = record {
  month_in = omega arith;
  day_in = omega arith;
  number = omega (arith, signed_arith, days_from_civil-day_count (pos 1970) 1 1, day_count-epoch);
}
date_at-number (suc n) = day_after-number n (date_at n) (date_at-number n)

-- a date of jiff is this one
pub record IsSameDay (date : Date) (civil : CivilDate) : Type 0 where
  pub year : date.year ≡ pos civil.year
  pub month : date.month ≡ civil.month
  pub day : date.day ≡ civil.day

-- before the year 10000 the nth day is one of jiff's
year_bound : (n : ℕ) → n ≤ 2_932_896 → (date_at n).year ≤ 9999
year_bound n h =
    let d = date_at-number n in
    by_lt_z (pos 9999) (pos (date_at n).year)
    (λ lt. absurd (omega (arith, signed_arith, d.number, days_from_civil-max, days_from_civil-day_count, day_count-lt_year (pos 9999) 12 31 (pos (date_at n).year) (date_at n).month (date_at n).day (omega (arith, signed_arith), omega arith, omega arith) d.day_in.0 lt)))
    (λ le. omega (arith, signed_arith))

jiff_date : (n : ℕ) → n ≤ 2_932_896 → Date
jiff_date n h =
    let d = date_at-number n in
    record {
      year = pos (date_at n).year;
      month = (date_at n).month;
      day = (date_at n).day;
      year_in = omega (arith, signed_arith, year_bound n h);
      month_in = d.month_in;
      day_in = d.day_in;
    }

-- the date with the day number n is the nth day
pub date_of_number : (n : ℕ) (d : Date) → n ≤ 2_932_896 → epoch_day d ≡ pos n → IsSameDay d (date_at n)
unfolding jiff_date
date_of_number n d h e =
    let same = epoch_day_injective d (jiff_date n h) (e ∙ sym (date_at-number n).number) in
    record { year = same.0; month = same.1; day = same.2 }

-- what a clock shows at a moment: the nth day, and the seconds that are left
pub date_of_clock : (moment : ℕ) (dt : DateTime) → moment ≤ 4_102_444_800 → civil_nanos dt ≡ pos (moment * 1_000_000_000) → IsSameDay dt.date (date_at (moment / 86_400))
date_of_clock moment dt h e =
    date_of_number (moment / 86_400) dt.date (omega arith)
    (omega (arith, signed_arith, e, civil_nanos-parts dt, time_nanos_bound dt.time))

-- a number that is not negative comes back from its bits as it was
cast_back : (w : Width) (z : ℤ) (n : ℕ) → z ≡ pos n → n < 2 ^ hbits w → unsigned_abs (to_z w (of_z w z)) ≡ n
cast_back w z n e h = rw e (rw (back_small w (pos n) h) refl)

-- the parts that jiff gives, cast to unsigned numbers, are the date
pub date_of_parts : (moment : ℕ) (dt : DateTime) (y m d : ℤ) → moment ≤ 4_102_444_800 → civil_nanos dt ≡ pos (moment * 1_000_000_000) → y ≡ dt.date.year → m ≡ pos dt.date.month → d ≡ pos dt.date.day → record { year = unsigned_abs (to_z w16 (of_z w16 y)); month = unsigned_abs (to_z w8 (of_z w8 m)); day = unsigned_abs (to_z w8 (of_z w8 d)) } ≡ date_at (moment / 86_400)
date_of_parts moment dt y m d h e year month day =
    let same = date_of_clock moment dt h e in
    let n = date_at-number (moment / 86_400) in
    let bound = year_bound (moment / 86_400) (omega arith) in
    let y' = cast_back w16 y (date_at (moment / 86_400)).year (year ∙ same.year) (omega arith) in
    let m' = cast_back w8 m (date_at (moment / 86_400)).month (month ∙ ap pos same.month) (omega (arith, n.month_in)) in
    let d' = cast_back w8 d (date_at (moment / 86_400)).day (day ∙ ap pos same.day) (omega (arith, n.day_in, days_in_month_bounds (pos (date_at (moment / 86_400)).year) (date_at (moment / 86_400)).month)) in
    λ i. record { year = y' i; month = m' i; day = d' i }

-- what is left of the seconds gives the time of day
time_of_seconds : (s : ℕ) (t : Time) → time_nanos t ≡ s * 1_000_000_000 → (t.hour ≡ s / 3600) × (t.minute ≡ s / 60 % 60) × (t.second ≡ s % 60)
time_of_seconds s t e = omega arith

-- the parts that jiff gives, cast to unsigned numbers, are the time
pub time_of_parts : (moment : ℕ) (dt : DateTime) (h m s : ℤ) → civil_nanos dt ≡ pos (moment * 1_000_000_000) → moment ≤ 4_102_444_800 → h ≡ pos dt.time.hour → m ≡ pos dt.time.minute → s ≡ pos dt.time.second → record { hour = unsigned_abs (to_z w8 (of_z w8 h)); minute = unsigned_abs (to_z w8 (of_z w8 m)); second = unsigned_abs (to_z w8 (of_z w8 s)) } ≡ time_at (moment % 86_400)
time_of_parts moment dt h m s e low hour minute second =
    let nanos : time_nanos dt.time ≡ moment % 86_400 * 1_000_000_000 = omega (arith, signed_arith, e, civil_nanos-parts dt, time_nanos_bound dt.time) in
    let same = time_of_seconds (moment % 86_400) dt.time nanos in
    let h' = cast_back w8 h dt.time.hour hour (omega arith) in
    let m' = cast_back w8 m dt.time.minute minute (omega arith) in
    let s' = cast_back w8 s dt.time.second second (omega arith) in
    λ i. record { hour = (h' ∙ same.0) i; minute = (m' ∙ same.1) i; second = (s' ∙ same.2) i }
