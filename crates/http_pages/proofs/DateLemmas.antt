-- The date at a second is a date of the calendar, and has that second.
use Rattle.std.proofs.Common.{◌≡◌, ◌∙◌, ℕ, zero, suc, ◌+◌, ◌-◌, ◌*◌, ◌/◌, ◌%◌, ◌<◌, ◌≤◌, Bool, true, false, refl, sym, ap, arith}
use Rattle.std.proofs.lemmas.Bool.{ltb-true, ltb-false}
use Rattle.std.specs.Prelude.{nat_lt, if◌then◌else◌}
use Rattle.httpdate.specs.declared.date.HttpDate.{HttpDate}
use Rattle.httpdate.specs.Calendar.{days_in_year, days_in_month, days_of_years, days_of_months, weekday}
use Rattle.httpdate.specs.Date.{date_text, unix_secs}
use Rattle.httpdate.specs.Text.{imf_fixdate}
use Rattle.httpdate.specs.Valid.{IsValid, parts_secs}
use Rattle.httpdate.proofs.CalendarLemmas.{days_of_years_closed, days_of_months_all, days_of_months_more}
use Rattle.httpdate.proofs.Theorems.{unix_secs_injective}
use Rattle.http_pages.specs.Dates.{year_of, month_of, date_of, date_at}
use Rattle.http_pages.specs.Limits.{last_second}

-- one of two, whichever the test takes
choose : (P : ℕ × ℕ → Type 0) (t : Bool) (a b : ℕ × ℕ) → (t ≡ true → P a) → (t ≡ false → P b) → P (if t then a else b)
choose P true a b one other = one refl
choose P false a b one other = other refl

-- a year and the days of it that have passed, out of all days from 1970 on
record IsYear (days : ℕ) (y : ℕ × ℕ) : Type 0 where
  pub low : 1970 ≤ y.0
  pub high : y.0 ≤ 9999
  pub sum : days_of_years (y.0 - 1970) + y.1 ≡ days
  pub within : y.1 < days_in_year y.0

next_year : (year : ℕ) → 1970 ≤ year → days_of_years (suc year - 1970) ≡ days_of_years (year - 1970) + days_in_year year
unfolding days_of_years
next_year year low =
    let count : suc year - 1970 ≡ suc (year - 1970) = omega (arith, low) in
    let same : 1970 + (year - 1970) ≡ year = omega (arith, low) in
    rw (count, same) refl

last_year : (year day days : ℕ) → year ≡ 9999 → days_of_years (year - 1970) + day ≡ days → days < 2932897 → day < days_in_year year
last_year year day days last sum few =
    let closed = days_of_years_closed 8029 in
    let at : days_of_years 8029 + day ≡ days = rw last at sum in
    rw last (omega (arith, closed, at, few))

year_found : (n year day days : ℕ) → 1970 ≤ year → year + n ≡ 9999 → days_of_years (year - 1970) + day ≡ days → days < 2932897 → IsYear days (year_of n year day)
unfolding year_of
year_found zero year day days low count sum few =
    record { low = low; high = omega (arith, count); sum = sum; within = last_year year day days (omega (arith, count)) sum few }
year_found (suc n) year day days low count sum few =
    choose (IsYear days) (nat_lt day (days_in_year year)) (year, day) (year_of n (suc year) (day - days_in_year year))
    (λ t. record { low = low; high = omega (arith, count); sum = sum; within = ltb-true day (days_in_year year) t })
    (λ t.
    let past = ltb-false day (days_in_year year) t in
    year_found n (suc year) (day - days_in_year year) days (omega (arith, low)) (omega (arith, count)) (omega (arith, sum, past, next_year year low)) few)

record IsMonth (year day : ℕ) (m : ℕ × ℕ) : Type 0 where
  pub low : 1 ≤ m.0
  pub high : m.0 ≤ 12
  pub sum : days_of_months year (m.0 - 1) + m.1 ≡ day
  pub within : m.1 < days_in_month year m.0

last_month : (year month left day : ℕ) → month ≡ 12 → days_of_months year (month - 1) + left ≡ day → day < days_in_year year → left < days_in_month year month
last_month year month left day last sum few =
    let at : days_of_months year 11 + left ≡ day = rw last at sum in
    rw last (omega (arith, at, few, days_of_months_all year, days_of_months_more year 12 (omega arith)))

month_found : (n year month left day : ℕ) → 1 ≤ month → month + n ≡ 12 → days_of_months year (month - 1) + left ≡ day → day < days_in_year year → IsMonth year day (month_of n year month left)
unfolding month_of
month_found zero year month left day low count sum few =
    record { low = low; high = omega (arith, count); sum = sum; within = last_month year month left day (omega (arith, count)) sum few }
month_found (suc n) year month left day low count sum few =
    choose (IsMonth year day) (nat_lt left (days_in_month year month)) (month, left) (month_of n year (suc month) (left - days_in_month year month))
    (λ t. record { low = low; high = omega (arith, count); sum = sum; within = ltb-true left (days_in_month year month) t })
    (λ t.
    let past = ltb-false left (days_in_month year month) t in
    let back : suc month - 1 ≡ month = omega arith in
    let more = days_of_months_more year month low in
    month_found n year (suc month) (left - days_in_month year month) day (omega arith) (omega (arith, count)) (rw back (omega (arith, sum, past, more))) few)

none_passed : (year days : ℕ) → days_of_years (1970 - 1970) + days ≡ days
unfolding days_of_years
none_passed year days = omega arith

no_month : (year day : ℕ) → days_of_months year (1 - 1) + day ≡ day
unfolding days_of_months
no_month year day = omega arith

abbrev days_of : ℕ × ℕ → ℕ × ℕ → ℕ
days_of y m = days_of_years (y.0 - 1970) + days_of_months y.0 (m.0 - 1) + (m.1 + 1 - 1)

days_same : (days : ℕ) (y m : ℕ × ℕ) → IsYear days y → IsMonth y.0 y.1 m → days_of y m ≡ days
days_same days y m year month = omega (arith, year.sum, month.sum)

a_year : (days : ℕ) → days < 2932897 → IsYear days (year_of 8029 1970 days)
a_year days few = year_found 8029 1970 days days (omega arith) (omega arith) (none_passed 1970 days) few

a_month : (year day : ℕ) → day < days_in_year year → IsMonth year day (month_of 11 year 1 day)
a_month year day few = month_found 11 year 1 day day (omega arith) (omega arith) (no_month year day) few

pub date_of_valid : (days second : ℕ) → days < 2932897 → second < 86400 → IsValid (date_of days second)
unfolding date_of
date_of_valid days second few within =
    let y = a_year days few in
    let year = year_of 8029 1970 days in
    let m = a_month year.0 year.1 y.within in
    let month = month_of 11 year.0 1 year.1 in (
      ((y.low, y.high), (m.low, m.high), (omega arith, omega (arith, m.within))),
      (omega (arith, within), omega arith, omega arith),
      ap weekday (sym (days_same days year month y m)),
    )

pub date_of_seconds : (days second : ℕ) → days < 2932897 → second < 86400 → parts_secs (date_of days second) ≡ days * 86400 + second
unfolding date_of
date_of_seconds days second few within =
    let y = a_year days few in
    let year = year_of 8029 1970 days in
    let m = a_month year.0 year.1 y.within in
    let month = month_of 11 year.0 1 year.1 in
    let same = days_same days year month y m in
    rw same (omega arith)

-- the kit's date with the same second is the same date
pub date_is : (d : HttpDate) (s : ℕ) → s ≤ last_second → unix_secs d ≡ s → date_text d ≡ imf_fixdate (date_at s)
date_is d s early same =
    let valid = date_of_valid (s / 86400) (s % 86400) (omega (arith, early)) (omega arith) in
    let seconds = date_of_seconds (s / 86400) (s % 86400) (omega (arith, early)) (omega arith) in
    let ours : HttpDate = record { parts = date_at s; civil = valid.0; time = valid.1; right_day = valid.2 } in
    ap imf_fixdate (unix_secs_injective d ours (same ∙ omega (arith, seconds)))
