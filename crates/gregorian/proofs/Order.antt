-- Good dates lie in the order of their days: a later year, month or day comes after all of the earlier one.
use mathlib.Core.Path.{◌≡◌}
use mathlib.Core.Bool.{true}
use Prim.Native.Nat.{ℕ, ◌+◌, ◌-◌, ◌<◌}
use native.Mathlib.Omega.{arith}
use lib.ListN.{get_or}
use lib.IntN.{ℤ}
use Rattle.month_lengths.specs.Lengths.{leap, months, days_of_months, year_days, year_at}
use Rattle.gregorian.specs.Gregorian.{years_to, days_of_years, days_to}
use Rattle.gregorian.specs.Dates.{good_date}
use Rattle.gregorian.proofs.Wholes.{rises}
use Rattle.gregorian.proofs.YearSums.{years_suc, years_step}
use Rattle.gregorian.proofs.MonthSums.{months_suc, months_step}
use Rattle.gregorian.proofs.Trip.{in_its_year, its_month_low, its_day_low, its_day_high}

pub later_year : (y y' : ℤ) (m m' d d' : ℕ) → good_date y m d ≡ true → good_date y' m' d' ≡ true → years_to y < years_to y' → days_to y m d < days_to y' m' d'
later_year y y' m m' d d' g g' h =
    let a = in_its_year y m d g in
    let b = in_its_year y' m' d' g' in
    omega (arith, a.is, a.short, b.is, years_step (years_to y), rises (λ k. year_days (year_at k)) days_of_years years_suc (years_to y + 1) (years_to y') (omega arith))

pub later_month : (y : ℤ) (m m' d d' : ℕ) → good_date y m d ≡ true → good_date y m' d' ≡ true → m < m' → days_to y m d < days_to y m' d'
unfolding days_to
later_month y m m' d d' g g' h =
    let l = its_month_low y m d g in
    omega
    (arith, its_day_low y m d g, its_day_high y m d g, months_step (leap y) (m - 1), rises (λ k. get_or (months (leap y)) k 0) (days_of_months (leap y)) (months_suc (leap y)) (m - 1 + 1) (m' - 1) (omega arith))

pub later_day : (y : ℤ) (m d d' : ℕ) → good_date y m d ≡ true → d < d' → days_to y m d < days_to y m d'
unfolding days_to
later_day y m d d' g h = omega (arith, its_day_low y m d g)
