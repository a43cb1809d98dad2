-- What holds of dates and day numbers. Each is proved in proofs/Promises.antt.
use Rattle.std.specs.Prelude.{◌≡◌, true, ℕ, ◌+◌, ◌≤◌, ℤ, pos, ◌+ℤ◌}
use Rattle.month_lengths.specs.Lengths.{leap, month_length, year_days}
use Rattle.gregorian.specs.Gregorian.{days_to, epoch_day, day_number}
use Rattle.gregorian.specs.Dates.{good_year, good_date, good_day_number, date_at}

-- ---- the definition of the day number, at sight

-- the days from 1 January -10000 to 1 January 1970
abbrev pub EpochDay : Type 0
EpochDay = days_to (pos 1970) 1 1 ≡ epoch_day

-- 1 January 1970 is day 0
abbrev pub DayZero : Type 0
DayZero = day_number (pos 1970) 1 1 ≡ pos 0

-- the next day of a month is one day later
abbrev pub NextDay : Type 0
NextDay = (y : ℤ) (m d : ℕ) → 1 ≤ d → day_number y m (d + 1) ≡ day_number y m d +ℤ pos 1

-- the day after a month's last is the first of the next month
abbrev pub NextMonth : Type 0
NextMonth = (y : ℤ) (m : ℕ) → 1 ≤ m → day_number y (m + 1) 1 ≡ day_number y m 1 +ℤ pos (month_length y m)

-- the day after 31 December is 1 January of the next year
abbrev pub NextYear : Type 0
NextYear = (y : ℤ) → good_year y ≡ true → day_number (y +ℤ pos 1) 1 1 ≡ day_number y 12 31 +ℤ pos 1

-- a year has 365 days, or 366 if it is leap
abbrev pub YearLengths : Type 0
YearLengths = (y : ℤ) → (leap y ≡ true → year_days y ≡ 366) × ((leap y ≡ true → ⊥) → year_days y ≡ 365)

-- ---- dates and day numbers name each other

-- the date of a day number is good, and has that day number
abbrev pub DayOfItsDate : Type 0
DayOfItsDate = (z : ℤ) → good_day_number z ≡ true →
    (good_date (date_at z).year (date_at z).month (date_at z).day ≡ true) × (day_number (date_at z).year (date_at z).month (date_at z).day ≡ z)

-- the day number of a good date is good, and has that date
abbrev pub DateOfItsDay : Type 0
DateOfItsDay = (y : ℤ) (m d : ℕ) → good_date y m d ≡ true →
    (good_day_number (day_number y m d) ≡ true) × (date_at (day_number y m d) ≡ record { year = y; month = m; day = d })
