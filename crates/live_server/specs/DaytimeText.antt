-- The line of daytime (RFC 867) at a number of microseconds since 1970: the day and the time, in the Gregorian calendar.
use Rattle.std.specs.Prelude.{ℕ, ◌+◌, ◌-◌, ◌*◌, ◌/◌, ◌%◌, nat_lt, List, ◌++◌, codes, if◌then◌else◌}
use Rattle.std.specs.Fmt.{decimal}
use Rattle.live_server.specs.declared.daytime.Date.{Date}

-- 400 years have 146,097 days; years begin in March here, so that a leap day is a year's last one
abbrev pub year_in : ℕ → ℕ
year_in day = (day - day / 1460 + day / 36524 - day / 146096) / 365

abbrev pub day_in_year : ℕ → ℕ
day_in_year day = day - (365 * year_in day + year_in day / 4 - year_in day / 100)

-- 0 is March, and 11 February
abbrev pub month_in : ℕ → ℕ
month_in day = (5 * day_in_year day + 2) / 153

-- the number of that month from January on, and how many years from January on have begun then
abbrev pub month_of : ℕ → ℕ
month_of m = if nat_lt m 10 then m + 3 else m - 9

abbrev pub turns_at : ℕ → ℕ
turns_at m = if nat_lt m 10 then 0 else 1

-- the date of a day of 400 years, where so many times 400 have passed
abbrev pub date_in : ℕ → ℕ → Date
date_in eras day = record {
  year = 400 * eras + year_in day + turns_at (month_in day);
  month = month_of (month_in day);
  day = day_in_year day - (153 * month_in day + 2) / 5 + 1;
}

-- the date so many days after 1 January 1970, which itself is 719,468 days after 1 March of the year 0
unfoldable pub date_of : ℕ → Date
date_of days = date_in ((days + 719468) / 146097) ((days + 719468) % 146097)

abbrev pub two_digits : ℕ → List ℕ
two_digits n = decimal (n / 10) ++ decimal (n % 10)

abbrev pub date_text : Date → List ℕ
date_text d = decimal d.year ++ (codes "-" ++ (two_digits d.month ++ (codes "-" ++ two_digits d.day)))

-- the second of a day
abbrev pub time_text : ℕ → List ℕ
time_text s = two_digits (s / 3600) ++ (codes ":" ++ (two_digits (s / 60 % 60) ++ (codes ":" ++ two_digits (s % 60))))

unfoldable pub daytime_text : ℕ → List ℕ
daytime_text time =
    date_text (date_of (time / 86400000000)) ++ (codes " " ++ (time_text (time / 1000000 % 86400) ++ codes " UTC\r\n"))
