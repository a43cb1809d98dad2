-- The lengths of years and months in the proleptic Gregorian calendar (ISO 8601), with a year 0. A year is a signed number;
-- the month m of a year counts from 1.
use Rattle.std.specs.Prelude.{Bool, true, false, not, ◌&&◌, ◌||◌, List, [], ◌∷◌, ℕ, zero, suc, ◌+◌, ◌-◌, ◌%◌, ◌==◌, slice_index, ℤ, pos, nat_abs, ◌-ℤ◌}

-- d divides y
abbrev pub divides : ℕ → ℤ → Bool
divides d y = nat_abs y % d == 0

-- a year is leap if 4 divides it and 100 doesn't, or 400 does
unfoldable pub leap : ℤ → Bool
leap y = (divides 4 y && not (divides 100 y)) || divides 400 y

-- the lengths of the months, January first: a row for common years and a row for leap years
abbrev pub months : Bool → List ℕ
months false = 31 ∷ 28 ∷ 31 ∷ 30 ∷ 31 ∷ 30 ∷ 31 ∷ 31 ∷ 30 ∷ 31 ∷ 30 ∷ 31 ∷ []
months true = 31 ∷ 29 ∷ 31 ∷ 30 ∷ 31 ∷ 30 ∷ 31 ∷ 31 ∷ 30 ∷ 31 ∷ 30 ∷ 31 ∷ []

-- the length of the month m of the year y, for months from 1 on; 0 if there is no such month
abbrev pub month_length : ℤ → ℕ → ℕ
month_length y m = slice_index (months (leap y)) (m - 1)

-- the days of the first k months of a row
unfoldable pub days_of_months : Bool → ℕ → ℕ
days_of_months row zero = 0
days_of_months row (suc k) = days_of_months row k + slice_index (months row) k

-- the days of a year: those of its twelve months
unfoldable pub year_days : ℤ → ℕ
year_days y = days_of_months (leap y) 12

-- the year that is n years after -10000
abbrev pub year_at : ℕ → ℤ
year_at n = pos n -ℤ pos 10000
