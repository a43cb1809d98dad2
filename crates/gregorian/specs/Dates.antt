-- Which dates there are, and the date of a day.
use Rattle.std.specs.Prelude.{Bool, if◌then◌else◌, ◌&&◌, ℕ, zero, suc, ◌+◌, ◌-◌, nat_lt, nat_le, slice_index, ℤ, pos, neg_ℤ, nat_abs, ◌+ℤ◌, int_le}
use Rattle.month_lengths.specs.Lengths.{leap, months, month_length, days_of_months, year_days, year_at}
use Rattle.gregorian.specs.Gregorian.{days_of_years, days_to, day_number}
use Rattle.gregorian.specs.declared.dates.Date.{Date}

-- the year is from -9999 to 9999, the month from 1 to 12, and the day fits the month
abbrev pub good_year : ℤ → Bool
good_year y = int_le (neg_ℤ (pos 9999)) y && int_le y (pos 9999)

abbrev pub good_month_day : ℤ → ℕ → ℕ → Bool
good_month_day y m d = nat_le 1 m && nat_le m 12 && nat_le 1 d && nat_le d (month_length y m)

abbrev pub good_date : ℤ → ℕ → ℕ → Bool
good_date y m d = good_year y && good_month_day y m d

-- a day number of the years from -9999 to 9999
abbrev pub good_day_number : ℤ → Bool
good_day_number z = int_le (day_number (neg_ℤ (pos 9999)) 1 1) z && int_le z (day_number (pos 9999) 12 31)

-- how many of the lengths f i, f (i + 1), .. lie whole in t days, k of them at most; counted from i
unfoldable pub wholes : (ℕ → ℕ) → ℕ → ℕ → ℕ → ℕ
wholes f zero i t = i
wholes f (suc k) i t = if nat_lt t (f i) then i else wholes f k (suc i) (t - f i)

-- the years that lie whole in the t days from 1 January -10000 on, and the months in t days of a year
abbrev pub years_in : ℕ → ℕ
years_in t = wholes (λ n. year_days (year_at n)) 20000 0 t

abbrev pub months_in : Bool → ℕ → ℕ
months_in row t = wholes (λ k. slice_index (months row) k) 12 0 t

-- the date that is t days after 1 January of the year n years after -10000: the months that lie whole in t have passed
unfoldable pub date_in_year : ℕ → ℕ → Date
date_in_year n t = record {
  year = year_at n;
  month = months_in (leap (year_at n)) t + 1;
  day = t - days_of_months (leap (year_at n)) (months_in (leap (year_at n)) t) + 1;
}

-- the date that is t days after 1 January -10000: the years that lie whole in t have passed
unfoldable pub date_in : ℕ → Date
date_in t = date_in_year (years_in t) (t - days_of_years (years_in t))

-- the date of a day number, for days from 1 January -10000 on
unfoldable pub date_at : ℤ → Date
date_at z = date_in (nat_abs (z +ℤ pos (days_to (pos 1970) 1 1)))
