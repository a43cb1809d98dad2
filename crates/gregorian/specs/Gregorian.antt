-- The proleptic Gregorian calendar (ISO 8601), with a year 0. A year is a signed number; months and days count from 1.
-- Days are counted by summing the lengths of years and months, from 1 January of the year -10000 on; the day number then
-- counts from 1 January 1970.
use Rattle.std.specs.Prelude.{ℕ, zero, suc, ◌+◌, ◌-◌, ℤ, pos, nat_abs, ◌+ℤ◌, ◌-ℤ◌}
use Rattle.month_lengths.specs.Lengths.{leap, days_of_months, year_days, year_at}

-- how many years the year y is after -10000, for years from then on
abbrev pub years_to : ℤ → ℕ
years_to y = nat_abs (y +ℤ pos 10000)

-- the days of the n years from -10000 on
unfoldable pub days_of_years : ℕ → ℕ
days_of_years zero = 0
days_of_years (suc n) = days_of_years n + year_days (year_at n)

-- the days from 1 January -10000 to a date
unfoldable pub days_to : ℤ → ℕ → ℕ → ℕ
days_to y m d = days_of_years (years_to y) + days_of_months (leap y) (m - 1) + (d - 1)

-- the days from 1 January -10000 to 1 January 1970: that sum, as `EpochDay` of specs/Promises says
abbrev pub epoch_day : ℕ
epoch_day = 4371953

-- the day number of a date: the days from 1 January 1970 to it, negative before
unfoldable pub day_number : ℤ → ℕ → ℕ → ℤ
day_number y m d = pos (days_to y m d) -ℤ pos (days_to (pos 1970) 1 1)
