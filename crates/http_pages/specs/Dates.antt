-- The date at a second from 1970 on (RFC 9110, 5.6.7), in the Gregorian calendar.
use Rattle.std.specs.Prelude.{ℕ, zero, suc, ◌+◌, ◌-◌, ◌/◌, ◌%◌, nat_lt, min, if◌then◌else◌, List}
use Rattle.httpdate.specs.declared.parts.Parts.{Parts}
use Rattle.httpdate.specs.Calendar.{days_in_year, days_in_month, weekday}
use Rattle.httpdate.specs.Text.{imf_fixdate}
use Rattle.http_pages.specs.Limits.{last_second}

-- the year in which a day falls, and how many days of it have passed, where the count begins at this year and passes so many
unfoldable pub year_of : ℕ → ℕ → ℕ → ℕ × ℕ
year_of zero year day = (year, day)
year_of (suc n) year day = if nat_lt day (days_in_year year) then (year, day) else year_of n (suc year) (day - days_in_year year)

-- the same of the months of a year
unfoldable pub month_of : ℕ → ℕ → ℕ → ℕ → ℕ × ℕ
month_of zero year month day = (month, day)
month_of (suc n) year month day =
    if nat_lt day (days_in_month year month) then (month, day) else month_of n year (suc month) (day - days_in_month year month)

abbrev pub with_month : ℕ → ℕ → ℕ × ℕ → ℕ → Parts
with_month days year month second = record {
  year = year;
  mon = month.0;
  day = month.1 + 1;
  hour = second / 3600;
  min = second / 60 % 60;
  sec = second % 60;
  wday = weekday days;
}

abbrev pub with_year : ℕ → ℕ × ℕ → ℕ → Parts
with_year days year second = with_month days year.0 (month_of 11 year.0 1 year.1) second

-- the date so many days and seconds after 1 January 1970; there are 8,030 years up to 9999
unfoldable pub date_of : ℕ → ℕ → Parts
date_of days second = with_year days (year_of 8029 1970 days) second

abbrev pub date_at : ℕ → Parts
date_at second = date_of (second / 86400) (second % 86400)

-- the date of a time in microseconds; behind the year 9999, of its last second
abbrev pub date_text : ℕ → List ℕ
date_text time = imf_fixdate (date_at (min (time / 1000000) last_second))
