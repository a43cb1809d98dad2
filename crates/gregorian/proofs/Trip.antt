-- From a day to its date and back, and from a date to its day and back, counted from 1 January -10000.
use mathlib.Core.Path.{◌≡◌, refl, sym, ap, ◌∙◌, subst}
use mathlib.Core.Bool.{Bool, true, ◌&&◌}
use Prim.Native.Nat.{ℕ, ◌+◌, ◌-◌, ◌*◌, ◌/◌, ◌<◌, ◌≤◌}
use native.Mathlib.Omega.{arith}
use native.Mathlib.Decide.{dec_lt}
use lib.Dec.{leb}
use lib.ListN.{get_or}
use lib.IntN.{ℤ}
use borrow.Author.Tests.{leb-true}
use Rattle.signed.proofs.Differences.{minus, raised_low, low, high}
use Rattle.signed.proofs.Tests.{le_le_z, and_left, and_right}
use Rattle.month_lengths.specs.Lengths.{leap, months, month_length, days_of_months, year_days, year_at}
use Rattle.gregorian.specs.Gregorian.{years_to, days_of_years, days_to}
use Rattle.gregorian.specs.Dates.{good_year, good_month_day, good_date, date_in}
use Rattle.gregorian.specs.Parts.{InMonth, InYear}
use Rattle.gregorian.specs.declared.dates.Date.{Date}
use Rattle.gregorian.proofs.Wholes.{rises}
use Rattle.gregorian.proofs.YearSums as years
use Rattle.gregorian.proofs.MonthSums as sums
use Rattle.gregorian.proofs.Tests.{month_day_good}
use Rattle.gregorian.proofs.Days.{year_low, year_back, years_most, days_in_year, date_in_lem, date_in_year_lem}

-- ---- every day has its year, and every day of a year its month

record Year (t : ℕ) : Type 0 where
  pub n : ℕ
  pub left : ℕ
  pub in_it : InYear t n left

year_found : (t : ℕ) → t < days_of_years 20000 → Year t
year_found t h = go (400 * (t + 1) / 146097) refl (dec_lt t (days_of_years (400 * (t + 1) / 146097)))
  where
    go : (g : ℕ) → 400 * (t + 1) / 146097 ≡ g → Dec (t < days_of_years g) → Year t
    go g e (yes l) = record { n = g - 1; left = t - days_of_years (g - 1); in_it = years.guess_late t g h e l }
    go g e (no l) = record { n = g; left = t - days_of_years g; in_it = years.guess_right t g h e (omega arith) }

record Month (row : Bool) (t : ℕ) : Type 0 where
  pub k : ℕ
  pub left : ℕ
  pub in_it : InMonth row t k left

month_found : (row : Bool) (t : ℕ) → t < days_of_months row 12 → Month row t
month_found row t h = go (dec_lt (t - days_of_months row (t / 32)) (get_or (months row) (t / 32) 0))
  where
    go : Dec (t - days_of_months row (t / 32) < get_or (months row) (t / 32) 0) → Month row t
    go (yes l) = record { k = t / 32; left = t - days_of_months row (t / 32); in_it = sums.guess_right row t (t / 32) h refl l }
    go (no l) = record { k = t / 32 + 1; left = t - days_of_months row (t / 32) - get_or (months row) (t / 32) 0; in_it = sums.guess_early row t (t / 32) h refl (omega arith) }

-- ---- a date of the years -9999 to 9999, from its parts

good_year_lem : (n : ℕ) → 1 ≤ n → n < 20000 → good_year (year_at n) ≡ true
good_year_lem n l h =
    rw (minus n 10000, le_le_z (low 9998 n 10000 (omega arith))) (le_le_z (high 9999 n 10000 (omega arith)))

good_month_day_lem : (y : ℤ) {t k left : ℕ} → InMonth (leap y) t k left → good_month_day y (k + 1) (left + 1) ≡ true
good_month_day_lem y {t} {k} {left} h =
    let e : k + 1 - 1 ≡ k = omega arith in
    month_day_good y (k + 1) (left + 1) (omega arith) (omega (arith, h.month)) (omega arith) (omega (arith, h.short, ap (λ j. get_or (months (leap y)) j 0) e))

-- the days to the date that lies in a year and a month
days_back : {t n left k rest : ℕ} → InYear t n left → InMonth (leap (year_at n)) left k rest → days_to (year_at n) (k + 1) (rest + 1) ≡ t
days_back {t} {n} {left} {k} {rest} y m =
    let e : k + 1 - 1 ≡ k = omega arith in
    days_in_year n (k + 1) (rest + 1) ∙ omega (arith, ap (days_of_months (leap (year_at n))) e, y.is, m.is)

-- a day after the year -10000 is that of its date
pub record Trip (t : ℕ) (date : Date) : Type 0 where
  pub good : good_date date.year date.month date.day ≡ true
  pub back : days_to date.year date.month date.day ≡ t

pub day_trip : (t : ℕ) → days_of_years 1 ≤ t → t < days_of_years 20000 → Trip t (date_in t)
unfolding year_days
day_trip t l h =
    let y = year_found t h in
    let n = y.n in
    let m = month_found (leap (year_at n)) y.left y.in_it.short in
    let e = date_in_lem y.in_it ∙ date_in_year_lem n m.in_it in
    subst (Trip t) (sym e) (record {
      good = rw (good_year_lem n (later n y.left y.in_it) y.in_it.year) (good_month_day_lem (year_at n) m.in_it);
      back = days_back y.in_it m.in_it;
    })
  where
    later : (n left : ℕ) → InYear t n left → 1 ≤ n
    later n left i = go (dec_lt 0 n)
      where
        go : Dec (0 < n) → 1 ≤ n
        go (yes p) = p
        go (no p) = let e : n ≡ 0 = omega arith in absurd (omega (arith, ap days_of_years e, ap (λ k. year_days (year_at k)) e, years.years_step 0, i.is, i.short))

-- ---- the parts of a good date

module _ (y : ℤ) (m d : ℕ) (g : good_date y m d ≡ true) where
  pub its_year : good_year y ≡ true
  its_year = and_left (good_year y) (good_month_day y m d) g

  its_month_day : good_month_day y m d ≡ true
  its_month_day = and_right (good_year y) (good_month_day y m d) g

  pub its_month_low : 1 ≤ m
  its_month_low = leb-true 1 m (and_left (leb 1 m) (leb m 12) (and_left (leb 1 m && leb m 12) (leb 1 d) (and_left (leb 1 m && leb m 12 && leb 1 d) (leb d (month_length y m)) its_month_day)))

  pub its_month_high : m ≤ 12
  its_month_high = leb-true m 12 (and_right (leb 1 m) (leb m 12) (and_left (leb 1 m && leb m 12) (leb 1 d) (and_left (leb 1 m && leb m 12 && leb 1 d) (leb d (month_length y m)) its_month_day)))

  pub its_day_low : 1 ≤ d
  its_day_low = leb-true 1 d (and_right (leb 1 m && leb m 12) (leb 1 d) (and_left (leb 1 m && leb m 12 && leb 1 d) (leb d (month_length y m)) its_month_day))

  pub its_day_high : d ≤ month_length y m
  its_day_high = leb-true d (month_length y m) (and_right (leb 1 m && leb m 12 && leb 1 d) (leb d (month_length y m)) its_month_day)

  -- where it stands in its year
  abbrev pub day_of_year : ℕ
  day_of_year = days_of_months (leap y) (m - 1) + (d - 1)

  pub in_its_month : InMonth (leap y) day_of_year (m - 1) (d - 1)
  in_its_month = record {
    month = omega (arith, its_month_low, its_month_high);
    is = refl;
    short = omega (arith, its_day_low, its_day_high);
  }

  pub in_its_year : InYear (days_to y m d) (years_to y) day_of_year
  unfolding days_to year_days
  in_its_year = record {
    year = years_most y its_year;
    is = omega arith;
    short = omega (
      arith,
      its_day_low,
      its_day_high,
      sums.months_step (leap y) (m - 1),
      rises (λ k. get_or (months (leap y)) k 0) (days_of_months (leap y)) (sums.months_suc (leap y)) (m - 1 + 1) 12 (omega (arith, its_month_low, its_month_high)),
      ap (λ z. days_of_months (leap z) 12) (year_back y its_year),
    );
  }

  pub its_years_low : 1 ≤ years_to y
  its_years_low = omega (arith, raised_low 10000 y (year_low y its_year) (omega arith))

  pub its_days_low : days_of_years 1 ≤ days_to y m d
  its_days_low = omega (arith, in_its_year.is, rises (λ k. year_days (year_at k)) days_of_years years.years_suc 1 (years_to y) its_years_low)

  pub its_days_high : days_to y m d < days_of_years 20000
  its_days_high =
      omega (
        arith,
        in_its_year.is,
        in_its_year.short,
        years.years_step (years_to y),
        rises (λ k. year_days (year_at k)) days_of_years years.years_suc (years_to y + 1) 20000 (omega (arith, years_most y its_year)),
      )

  pub date_trip : date_in (days_to y m d) ≡ record { year = y; month = m; day = d }
  date_trip =
      let b = year_back y its_year in
      let i = subst (λ z. InMonth (leap z) day_of_year (m - 1) (d - 1)) (sym b) in_its_month in
      let e : m - 1 + 1 ≡ m = omega (arith, its_month_low) in
      let f : d - 1 + 1 ≡ d = omega (arith, its_day_low) in
      date_in_lem in_its_year ∙ date_in_year_lem (years_to y) {k = m - 1} {left = d - 1} i ∙ (λ i. record { year = b i; month = e i; day = f i })
