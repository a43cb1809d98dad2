-- `day_of` meets its contract: the days before the year, before the month and before the day are those that the definition
-- sums. Assumes nothing.
use mathlib.Core.Path.{◌≡◌, sym, ap, ◌∙◌}
use Prim.Native.Nat.{◌+◌, ◌-◌, ◌<◌}
use native.Mathlib.Omega.{arith}
use lib.IntN.{sub_ℕ}
use mir.Syntax.{w32}
use mir.Facts.{to_z-of_z}
use Rattle.signed.proofs.Machine.{Lowers, lowers}
use Rattle.month_lengths.specs.Lengths.{days_of_months}
use Rattle.gregorian.specs.Gregorian.{years_to, days_of_years, days_to, epoch_day}
use Rattle.gregorian.proofs.YearSums.{all_years}
use Rattle.gregorian.proofs.Days.{leap_back, number}
use Rattle.gregorian.proofs.Trip.{its_year, its_days_high}
use Rattle.year_walk.proofs.dates.day_of.Goals as goal
use Rattle.year_walk.proofs.dates.day_of.Goals.{After-days_before-2}

-- the sum, in the calendar's words, and how large it can be
total : (c : After-days_before-2) → let s = c.args in c.days_before.result + c.days_before-2.result + (s.day - 1) ≡ days_to s.year s.month s.day
unfolding days_to
total c =
    let d = c.args in
    let years : c.years_to-years.result ≡ years_to d.year = rw (to_z-of_z c.ranges.year) at c.years_to-years.ensures in
    let b = c.is_leap-leap.ensures ∙ leap_back d.year (its_year d.year d.month d.day c.requires) years in
    omega
    (arith, c.days_before.ensures ∙ ap days_of_years years, c.days_before-2.ensures ∙ ap (λ r. days_of_months r (d.month - 1)) b)

small : (c : After-days_before-2) → let s = c.args in c.days_before.result + c.days_before-2.result + (s.day - 1) < 7304850
small c =
    omega (arith, total c, its_days_high c.args.year c.args.month c.args.day c.requires, all_years)

pub overflow_add-start : goal.overflow_add-start
overflow_add-start c = omega (arith, small (goal.at.overflow_add-start c).After-days_before-2)

pub overflow_add-result : goal.overflow_add-result
overflow_add-result c = omega (arith, small (goal.at.overflow_add-result c).After-days_before-2)

pub overflow_cast-result : goal.overflow_cast-result
overflow_cast-result c = record { sfits = omega (arith, small (goal.at.overflow_cast-result c).After-days_before-2) }

difference : (c : After-days_before-2) → let s = c.args in Lowers w32 (c.days_before.result + c.days_before-2.result + (s.day - 1)) epoch_day
difference c = lowers w32 _ epoch_day (omega (arith, small c)) (omega arith)

pub overflow_sub-result-2 : goal.overflow_sub-result-2
overflow_sub-result-2 c = (difference (goal.at.overflow_sub-result-2 c).After-days_before-2).fits

pub returns : goal.returns
returns c =
    let s = c.args in
    (difference (goal.at.returns c).After-days_before-2).is ∙ ap (λ n. sub_ℕ n epoch_day) (total (goal.at.returns c).After-days_before-2) ∙ sym (number s.year s.month s.day)
