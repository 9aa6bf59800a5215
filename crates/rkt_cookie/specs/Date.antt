-- The date of a moment, in seconds since 1970, by the Gregorian calendar.
use Rattle.std.specs.Prelude.{ℕ, zero, suc, ◌+◌, ◌-◌, ◌/◌, ◌%◌, List, min, nat_le, if◌then◌else◌}
use Rattle.httpdate.specs.declared.parts.Parts.{Parts}
use Rattle.httpdate.specs.Calendar.{days_of_years, days_of_months, weekday}
use Rattle.httpdate.specs.Text.{imf_fixdate}

-- the last place up to n at which f is not above x, or 0
unfoldable pub last_within : (ℕ → ℕ) → ℕ → ℕ → ℕ
last_within f zero x = 0
last_within f (suc n) x = if nat_le (f (suc n)) x then suc n else last_within f n x

-- how many whole years lie in so many days from 1970 on, up to the beginning of 9999
abbrev pub years_within : ℕ → ℕ
years_within days = last_within days_of_years 8029 days

-- how many whole months lie in so many days from the beginning of the year on
abbrev pub months_within : ℕ → ℕ → ℕ
months_within year days = last_within (days_of_months year) 11 days

-- the date of a day, by its number from 1 January 1970 on, and of a second of that day
abbrev pub date_at : ℕ → ℕ → Parts
date_at days second =
    let year = 1970 + years_within days in
    let day = days - days_of_years (years_within days) in
    record {
      year = year;
      mon = months_within year day + 1;
      day = day - days_of_months year (months_within year day) + 1;
      hour = second / 3600;
      min = second % 3600 / 60;
      sec = second % 60;
      wday = weekday days;
    }

-- the date of a moment
unfoldable pub date_of : ℕ → Parts
date_of moment = date_at (moment / 86400) (moment % 86400)

-- the last second of the year 9999
abbrev pub last_second : ℕ
last_second = 253402300799

-- a moment that has a date of four digits: the last that there is, where it comes later
abbrev pub dated : ℕ → ℕ
dated moment = min moment last_second

-- the date of a moment as IMF-fixdate (RFC 9110, section 5.6.7)
abbrev pub moment_text : ℕ → List ℕ
moment_text moment = imf_fixdate (date_of moment)
