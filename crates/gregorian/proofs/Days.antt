-- Dates and day numbers as days counted from 1 January -10000.
use mathlib.Core.Path.{◌≡◌, ap, ◌∙◌}
use mathlib.Core.Bool.{Bool, true}
use Prim.Native.Nat.{ℕ, ◌+◌, ◌-◌, ◌<◌}
use native.Mathlib.Omega.{arith}
use lib.ListN.{get_or}
use lib.IntN.{ℤ, pos, negsuc, neg_ℤ, nat_abs, sub_ℕ, ◌+ℤ◌}
use lib.Signed.{◌≤ℤ◌, le_z}
use mir.Syntax.{w64}
use mir.Val.{SFits}
use Rattle.signed.proofs.Differences.{minus, lower, raised, raised_high, raised_back}
use Rattle.signed.proofs.Machine.{Raises, raises}
use Rattle.signed.proofs.Tests.{le_z_le, and_left, and_right}
use Rattle.month_lengths.specs.Lengths.{leap, months, days_of_months, year_days, year_at}
use Rattle.gregorian.specs.Gregorian.{years_to, days_of_years, days_to, day_number, epoch_day}
use Rattle.gregorian.specs.Dates.{good_year, good_day_number, years_in, months_in, date_in_year, date_in, date_at}
use Rattle.gregorian.specs.Parts.{InMonth, InYear}
use Rattle.gregorian.proofs.YearSums.{closed_is, no_years, years_suc, all_years}
use Rattle.gregorian.proofs.MonthSums.{no_months, months_suc}
use Rattle.gregorian.proofs.Wholes.{whole}

-- ---- years

pub year_low : (y : ℤ) → good_year y ≡ true → negsuc 9998 ≤ℤ y
year_low y g = le_z_le (negsuc 9998) y (and_left (le_z (negsuc 9998) y) (le_z y (pos 9999)) g)

pub year_high : (y : ℤ) → good_year y ≡ true → y ≤ℤ pos 9999
year_high y g = le_z_le y (pos 9999) (and_right (le_z (negsuc 9998) y) (le_z y (pos 9999)) g)

-- a good year and its count from -10000 name each other
pub year_back : (y : ℤ) → good_year y ≡ true → year_at (years_to y) ≡ y
year_back y g = minus (years_to y) 10000 ∙ lower 10000 y (year_low y g) (omega arith)

pub years_back : (n : ℕ) → years_to (year_at n) ≡ n
years_back n = ap (raised 10000) (minus n 10000) ∙ raised_back 10000 n

pub leap_back : (y : ℤ) {n : ℕ} → good_year y ≡ true → n ≡ years_to y → leap (year_at n) ≡ leap y
leap_back y g e = ap leap (ap year_at e ∙ year_back y g)

pub years_most : (y : ℤ) → good_year y ≡ true → years_to y < 20000
years_most y g = omega (arith, raised_high 10000 y (year_low y g) (omega arith) (year_high y g))

-- ---- day numbers

pub epoch : days_to (pos 1970) 1 1 ≡ epoch_day
unfolding days_to
epoch = ap (λ n. n + days_of_months (leap (pos 1970)) 0 + 0) (closed_is 11970) ∙ ap (λ n. epoch_day + n + 0) (no_months (leap (pos 1970)))

pub number : (y : ℤ) (m d : ℕ) → day_number y m d ≡ sub_ℕ (days_to y m d) epoch_day
unfolding day_number
number y m d = minus (days_to y m d) (days_to (pos 1970) 1 1) ∙ ap (sub_ℕ (days_to y m d)) epoch

pub days_in_year : (n m d : ℕ) → days_to (year_at n) m d ≡ days_of_years n + days_of_months (leap (year_at n)) (m - 1) + (d - 1)
unfolding days_to
days_in_year n m d = ap (λ k. days_of_years k + days_of_months (leap (year_at n)) (m - 1) + (d - 1)) (years_back n)

pub first_day : day_number (neg_ℤ (pos 9999)) 1 1 ≡ negsuc 4371586
unfolding leap days_of_months
first_day = number (neg_ℤ (pos 9999)) 1 1 ∙ ap (λ n. sub_ℕ n epoch_day) (days_in_year 1 1 1 ∙ ap (λ n. n + 0 + 0) (closed_is 1))

pub last_day : day_number (pos 9999) 12 31 ≡ pos 2932896
unfolding leap days_of_months
last_day = number (pos 9999) 12 31 ∙ ap (λ n. sub_ℕ n epoch_day) (days_in_year 19999 12 31 ∙ ap (λ n. n + 334 + 30) (closed_is 19999))

pub day_low : (z : ℤ) → good_day_number z ≡ true → negsuc 4371586 ≤ℤ z
day_low z g = le_z_le (negsuc 4371586) z (rw first_day at (and_left (le_z (day_number (neg_ℤ (pos 9999)) 1 1) z) (le_z z (day_number (pos 9999) 12 31)) g))

pub day_high : (z : ℤ) → good_day_number z ≡ true → z ≤ℤ pos 2932896
day_high z g = le_z_le z (pos 2932896) (rw last_day at (and_right (le_z (day_number (neg_ℤ (pos 9999)) 1 1) z) (le_z z (day_number (pos 9999) 12 31)) g))

pub days_most : (z : ℤ) → good_day_number z ≡ true → raised epoch_day z < days_of_years 20000
days_most z g = omega (arith, all_years, raised_high epoch_day z (day_low z g) (omega arith) (day_high z g))

-- the same of days
pub raises_day : {z : ℤ} → SFits w64 z → good_day_number z ≡ true → Raises epoch_day z
raises_day {z} f g = raises epoch_day f (day_low z g) (omega arith) (omega (arith, all_years, days_most z g))

-- ---- the date of a day

pub months_whole : {row : Bool} {t k left : ℕ} → InMonth row t k left → months_in row t ≡ k
months_whole {row} {t} {k} {left} h =
    whole (λ j. get_or (months row) j 0) (days_of_months row) (months_suc row) 12 0 k t (omega arith) h.month
    (omega (arith, no_months row, h.is))
    (omega (arith, no_months row, h.is, h.short, months_suc row k))

pub years_whole : {t n left : ℕ} → InYear t n left → years_in t ≡ n
years_whole {t} {n} {left} h =
    whole (λ k. year_days (year_at k)) days_of_years years_suc 20000 0 n t (omega arith) h.year
    (omega (arith, no_years, h.is))
    (omega (arith, no_years, h.is, h.short, years_suc n))

pub date_in_year_lem : (n : ℕ) {t k left : ℕ} → InMonth (leap (year_at n)) t k left → date_in_year n t ≡ record { year = year_at n; month = k + 1; day = left + 1 }
unfolding date_in_year
date_in_year_lem n {t} {k} {left} h =
    let e = months_whole h in
    let d : t - days_of_months (leap (year_at n)) (months_in (leap (year_at n)) t) + 1 ≡ left + 1 = omega (arith, ap (days_of_months (leap (year_at n))) e, h.is) in
    λ i. record { year = year_at n; month = e i + 1; day = d i }

pub date_in_lem : {t n left : ℕ} → InYear t n left → date_in t ≡ date_in_year n left
unfolding date_in
date_in_lem {t} {n} {left} h =
    let e = years_whole h in
    let d : t - days_of_years (years_in t) ≡ left = omega (arith, ap days_of_years e, h.is) in
    λ i. date_in_year (e i) (d i)

pub date_at_lem : (z : ℤ) {n left : ℕ} → InYear (nat_abs (z +ℤ pos epoch_day)) n left → date_at z ≡ date_in_year n left
unfolding date_at
date_at_lem z h = rw epoch (date_in_lem h)
