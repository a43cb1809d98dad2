-- What the functions inside promise each other, here and in the second engine.
use Rattle.std.specs.Prelude.{◌≡◌, Bool, if◌then◌else◌, ℕ, ◌+◌, ◌<◌, nat_lt, ℤ, slice_index}
use Rattle.refusal.specs.Answers.{Answer, gives, refused}
use Rattle.month_lengths.specs.Lengths.{months, days_of_months, year_days, year_at}
use Rattle.gregorian.specs.Gregorian.{days_of_years, day_number}
use Rattle.gregorian.specs.Dates.{good_month_day}

-- what February lacks of 30 days, of the month k, from 0
abbrev pub lacking_of : Bool → ℕ → ℕ
lacking_of row k = if nat_lt k 2 then 0 else (if row then 1 else 2)

-- a day of a year lies in the month k, from 0, after `left` days of it
pub record InMonth (row : Bool) (day k left : ℕ) : Type 0 where
  pub month : k < 12
  pub is : days_of_months row k + left ≡ day
  pub short : left < slice_index (months row) k

-- a day from 1 January -10000 lies in the year n years later, after `left` days of it
pub record InYear (day n left : ℕ) : Type 0 where
  pub year : n < 20000
  pub is : days_of_years n + left ≡ day
  pub short : left < year_days (year_at n)

-- the day number of a month and a day in a year that is known to be good
abbrev pub day_in_year : ℤ → ℕ → ℕ → Answer ℤ
day_in_year y m d = if good_month_day y m d then gives (day_number y m d) else refused 3
