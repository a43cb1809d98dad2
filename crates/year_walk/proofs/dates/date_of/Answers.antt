-- `date_of` meets its contract: the year and the month that were walked to are those whose whole years and months have
-- passed. Assumes nothing.
use mathlib.Core.Path.{sym, ap, ◌∙◌, subst}
use native.Mathlib.Omega.{arith}
use mir.Syntax.{w64}
use Rattle.signed.proofs.Differences.{minus, raised}
use Rattle.signed.proofs.Machine.{lowers}
use Rattle.month_lengths.specs.Lengths.{days_of_months, year_days}
use Rattle.gregorian.specs.Gregorian.{epoch_day}
use Rattle.gregorian.specs.Parts.{InYear, InMonth}
use Rattle.gregorian.proofs.MonthSums.{months_step}
use Rattle.gregorian.proofs.YearSums.{years_step}
use Rattle.gregorian.proofs.Days.{raises_day, days_most, date_at_lem, date_in_year_lem}
use Rattle.year_walk.proofs.dates.date_of.Goals as goal
use Rattle.year_walk.proofs.dates.date_of.Goals.{After-passed_at-year}

pub overflow_add-number : goal.overflow_add-number
overflow_add-number c = (raises_day c.ranges.number c.requires).fits

pub overflow_cast-number : goal.overflow_cast-number
overflow_cast-number c = (raises_day c.ranges.number c.requires).cast

pub passed_at-year-requires : goal.passed_at-year-requires
passed_at-year-requires c = rw (raises_day c.ranges.number c.requires).is (days_most c.args.number c.requires)

-- the year that was walked to is the one that the day lies in
in_year : (c : After-passed_at-year) → InYear (raised epoch_day c.args.number) c.passed_at-year.result.whole c.passed_at-year.result.left
in_year c =
    let y = c.passed_at-year.result in
    let e = c.passed_at-year.ensures in
    let d = (raises_day c.ranges.number c.requires).is in
    record {
      year = e.within;
      is = e.is ∙ d;
      short = omega (arith, e.is, e.short, years_step y.whole);
    }

pub passed_at-month-requires : goal.passed_at-month-requires
unfolding year_days
passed_at-month-requires c =
    let y = in_year (goal.at.passed_at-month-requires c).After-passed_at-year in
    omega (arith, y.short, ap (λ b. days_of_months b 12) c.is_leap-leap.ensures)

pub returns : goal.returns
unfolding year_days
returns c =
    let y = in_year (goal.at.returns c).After-passed_at-year in
    let n = c.passed_at-year.result.whole in
    let b = c.is_leap-leap.result in
    let m = c.passed_at-month.result in
    let e = c.passed_at-month.ensures in
    let found : InMonth b c.passed_at-year.result.left m.whole m.left = record {
      month = e.within;
      is = e.is;
      short = omega (arith, e.is, e.short, months_step b m.whole);
    } in
    let year = lowers w64 n 10000 (omega (arith, y.year)) (omega arith) in
    let d = date_at_lem c.args.number y ∙ date_in_year_lem n (subst (λ r. InMonth r c.passed_at-year.result.left m.whole m.left) c.is_leap-leap.ensures found) in
    rw (year.is ∙ sym (minus n 10000)) (sym d)
