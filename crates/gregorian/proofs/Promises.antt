-- Proofs of what specs/Promises.antt states.
use mathlib.Core.Path.{◌≡◌, refl, sym, ap, ◌∙◌}
use mathlib.Core.Bool.{Bool, true, false}
use Prim.Native.Nat.{ℕ, ◌+◌, ◌-◌}
use native.Mathlib.Omega.{arith}
use lib.IntN.{ℤ, pos, sub_ℕ, ◌+ℤ◌}
use Rattle.signed.proofs.Differences.{minus, plus, lower, raised, raised_low, raised_back, low, high}
use Rattle.signed.proofs.Tests.{le_le_z}
use Rattle.month_lengths.specs.Lengths.{leap, month_length, days_of_months, year_days, year_at}
use Rattle.gregorian.specs.Gregorian.{years_to, days_to, day_number, epoch_day}
use Rattle.gregorian.specs.Dates.{date_in, date_at}
use Rattle.gregorian.specs.Promises.{EpochDay, DayZero, NextDay, NextMonth, NextYear, YearLengths, DayOfItsDate, DateOfItsDay}
use Rattle.gregorian.proofs.YearSums.{closed_is, years_step, all_years, row_days}
use Rattle.gregorian.proofs.MonthSums.{no_months, months_step}
use Rattle.gregorian.proofs.Days.{year_back, epoch, number, days_in_year, first_day, last_day, day_low, days_most}
use Rattle.gregorian.proofs.Trip.{day_trip, date_trip, its_days_low, its_days_high}

pub epoch_day_lem : EpochDay
epoch_day_lem = epoch

pub day_zero : DayZero
day_zero = number (pos 1970) 1 1 ∙ ap (λ n. sub_ℕ n epoch_day) epoch

-- so many days more to a date are so many more in its number
later : (y y' : ℤ) (m m' d d' k : ℕ) → days_to y' m' d' ≡ days_to y m d + k → day_number y' m' d' ≡ day_number y m d +ℤ pos k
later y y' m m' d d' k e =
    number y' m' d' ∙ ap (λ n. sub_ℕ n epoch_day) e ∙ sym (plus (days_to y m d) epoch_day k) ∙ ap (λ z. z +ℤ pos k) (sym (number y m d))

pub next_day : NextDay
unfolding days_to
next_day y m d h = later y y m m d (d + 1) 1 (omega arith)

pub next_month : NextMonth
unfolding days_to
next_month y m h =
    let e : m + 1 - 1 ≡ m - 1 + 1 = omega arith in
    later y y m (m + 1) 1 1 (month_length y m) (omega (arith, ap (days_of_months (leap y)) e, months_step (leap y) (m - 1)))

-- a year's last day is 364 or 365 days after its first
december : (b : Bool) → days_of_months b 11 + 30 + 1 ≡ days_of_months b 12
unfolding days_of_months
december true = refl
december false = refl

pub next_year : NextYear
unfolding year_days
next_year y g =
    let n = years_to y in
    let b = year_back y g in
    let s : y +ℤ pos 1 ≡ year_at (n + 1) = ap (λ z. z +ℤ pos 1) (sym b ∙ minus n 10000) ∙ plus n 10000 1 ∙ sym (minus (n + 1) 10000) in
    let r = leap (year_at n) in
    ap (λ z. day_number z 1 1) s
    ∙ later (year_at n) (year_at (n + 1)) 12 1 31 1 1
    (days_in_year (n + 1) 1 1 ∙ omega (arith, no_months (leap (year_at (n + 1))), no_months r, years_step n, december r) ∙ ap (λ k. k + 1) (sym (days_in_year n 12 31)))
    ∙ ap (λ z. day_number z 12 31 +ℤ pos 1) b

pub year_lengths : YearLengths
unfolding year_days
year_lengths y = (λ e. ap (λ b. days_of_months b 12) e ∙ row_days true, λ f. common (leap y) f)
  where
    common : (b : Bool) → (b ≡ true → ⊥) → days_of_months b 12 ≡ 365
    common true f = absurd (f refl)
    common false f = row_days false

pub day_of_its_date : DayOfItsDate
unfolding date_at
day_of_its_date z g =
    let l = day_low z g in
    let t = raised epoch_day z in
    let trip = day_trip t (omega (arith, closed_is 1, raised_low epoch_day z l (omega arith))) (days_most z g) in
    let d = date_in t in
    rw epoch
    (trip.good, number d.year d.month d.day ∙ ap (λ n. sub_ℕ n epoch_day) trip.back ∙ lower epoch_day z l (omega arith))

pub date_of_its_day : DateOfItsDay
unfolding date_at
date_of_its_day y m d g =
    let t = days_to y m d in
    let e = number y m d in (
      rw (first_day, last_day, e, le_le_z (low 4371586 t epoch_day (omega (arith, closed_is 1, its_days_low y m d g)))) (le_le_z (high 2932896 t epoch_day (omega (arith, all_years, its_days_high y m d g)))),
      rw (epoch, e, raised_back epoch_day t) (date_trip y m d g),
    )
