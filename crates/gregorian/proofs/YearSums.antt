-- The sum of the years' lengths in closed form, and the year of a day by a guess.
use mathlib.Core.Path.{◌≡◌, refl, sym, ap, ◌∙◌}
use mathlib.Core.Bool.{Bool, true, false, not, ◌&&◌, ◌||◌, cond}
use Prim.Native.Nat.{ℕ, zero, suc, ◌+◌, ◌-◌, ◌*◌, ◌/◌, ◌%◌, ◌<◌, ◌≤◌}
use native.Mathlib.Omega.{arith}
use native.Mathlib.Numerals.{add-one}
use native.Mathlib.Decide.{dec_lt}
use lib.Dec.{eqb}
use borrow.Author.Tests.{eqb-true, eqb-false}
use Rattle.month_lengths.specs.Lengths.{leap, days_of_months, year_days, year_at}
use Rattle.month_lengths.proofs.Leap.{leap_n, leap_at}
use Rattle.gregorian.specs.Gregorian.{days_of_years}
use Rattle.gregorian.specs.Parts.{InYear}
use Rattle.gregorian.proofs.Wholes.{fewer}

-- one year more
pub years_step : (n : ℕ) → days_of_years (n + 1) ≡ days_of_years n + year_days (year_at n)
unfolding days_of_years
years_step n = ap days_of_years (add-one n)

pub years_suc : (n : ℕ) → days_of_years (suc n) ≡ days_of_years n + year_days (year_at n)
unfolding days_of_years
years_suc n = refl

pub no_years : days_of_years 0 ≡ 0
unfolding days_of_years
no_years = refl

-- a year has 365 days, or 366
pub row_days : (b : Bool) → days_of_months b 12 ≡ 365 + cond b 1 0
unfolding days_of_months
row_days false = refl
row_days true = refl

pub year_row : (n : ℕ) (b : Bool) → b ≡ leap (year_at n) → year_days (year_at n) ≡ 365 + cond b 1 0
unfolding year_days
year_row n b e = ap (λ c. days_of_months c 12) (sym e) ∙ row_days b

-- 365 days a year, and one more for each leap year
abbrev pub closed : ℕ → ℕ
closed n = 365 * n + (n + 3) / 4 + (n + 399) / 400 - (n + 99) / 100

-- the quotients grow by x, y and z, and the year has l days more than 365
grown : (n a b c a' b' c' x y z l : ℕ) → a' ≡ a + x → b' ≡ b + y → c' ≡ c + z → l + y ≡ x + z → b ≤ 365 * n + a + c
    → 365 * n + a + c - b + (365 + l) ≡ 365 * suc n + a' + c' - b'
grown n a b c a' b' c' x y z l p q r e h = omega arith

few : (n : ℕ) → (n + 99) / 100 ≤ 365 * n + (n + 3) / 4 + (n + 399) / 400
few n = omega arith

step : (n : ℕ) → closed n + (365 + cond (leap_n n) 1 0) ≡ closed (suc n)
step n = go (eqb (n % 4) 0) (eqb (n % 100) 0) (eqb (n % 400) 0) refl refl refl
  where
    by : (x y z l : ℕ) → (suc n + 3) / 4 ≡ (n + 3) / 4 + x → (suc n + 99) / 100 ≡ (n + 99) / 100 + y → (suc n + 399) / 400 ≡ (n + 399) / 400 + z → l + y ≡ x + z → closed n + (365 + l) ≡ closed (suc n)
    by x y z l p q r e = grown n ((n + 3) / 4) ((n + 99) / 100) ((n + 399) / 400) ((suc n + 3) / 4) ((suc n + 99) / 100) ((suc n + 399) / 400) x y z l p q r e (few n)

    go : (b₄ b₁₀₀ b₄₀₀ : Bool) → eqb (n % 4) 0 ≡ b₄ → eqb (n % 100) 0 ≡ b₁₀₀ → eqb (n % 400) 0 ≡ b₄₀₀
        → closed n + (365 + cond ((b₄ && not b₁₀₀) || b₄₀₀) 1 0) ≡ closed (suc n)
    go true true true p q r = by 1 1 1 1 (omega (arith, eqb-true (n % 4) 0 p)) (omega (arith, eqb-true (n % 100) 0 q)) (omega (arith, eqb-true (n % 400) 0 r)) refl
    go true true false p q r = by 1 1 0 0 (omega (arith, eqb-true (n % 4) 0 p)) (omega (arith, eqb-true (n % 100) 0 q)) (omega (arith, eqb-false (n % 400) 0 r)) refl
    go true false false p q r = by 1 0 0 1 (omega (arith, eqb-true (n % 4) 0 p)) (omega (arith, eqb-false (n % 100) 0 q)) (omega (arith, eqb-false (n % 400) 0 r)) refl
    go false false false p q r = by 0 0 0 0 (omega (arith, eqb-false (n % 4) 0 p)) (omega (arith, eqb-false (n % 100) 0 q)) (omega (arith, eqb-false (n % 400) 0 r)) refl
    -- 400 divides no number that 100 or 4 does not
    go true false true p q r = absurd (omega (arith, eqb-false (n % 100) 0 q, eqb-true (n % 400) 0 r))
    go false true true p q r = absurd (omega (arith, eqb-false (n % 4) 0 p, eqb-true (n % 400) 0 r))
    go false true false p q r = absurd (omega (arith, eqb-false (n % 4) 0 p, eqb-true (n % 100) 0 q))
    go false false true p q r = absurd (omega (arith, eqb-false (n % 4) 0 p, eqb-true (n % 400) 0 r))

pub closed_is : (n : ℕ) → days_of_years n ≡ closed n
unfolding days_of_years
closed_is zero = refl
closed_is (suc n) = rw (closed_is n, year_row n (leap_n n) (sym (leap_at n))) (step n)

-- 400 years have 146097 days: how far a sum of years can stray from that
closed_low : (n : ℕ) → 146097 * n ≤ 400 * closed n + 396
closed_low n = omega arith

closed_high : (n : ℕ) → 400 * closed n ≤ 146097 * n + 699
closed_high n = omega arith

pub years_low : (n : ℕ) → 146097 * n ≤ 400 * days_of_years n + 396
years_low n = rw (closed_is n) (closed_low n)

pub years_high : (n : ℕ) → 400 * days_of_years n ≤ 146097 * n + 699
years_high n = rw (closed_is n) (closed_high n)

pub all_years : days_of_years 20000 ≡ 7304850
all_years = closed_is 20000

-- the years passed before a day are fewer than all
pub fewer_years : (n day : ℕ) → days_of_years n ≤ day → day < days_of_years 20000 → n < 20000
fewer_years n day l h = fewer (λ k. year_days (year_at k)) days_of_years years_suc n 20000 day l h

-- a day between the starts of two neighbouring years lies in the first
pub in_year : (day n : ℕ) → n < 20000 → days_of_years n ≤ day → day < days_of_years (n + 1) → InYear day n (day - days_of_years n)
in_year day n h l u = record { year = h; is = omega arith; short = omega (arith, years_step n) }

-- the guess g is the year of the day, or the one after
module _ (day g : ℕ) (fits : day < days_of_years 20000) (is : 400 * (day + 1) / 146097 ≡ g) where
  guess_most : g ≤ 20000
  guess_most = omega (arith, all_years)

  pub guess_right : days_of_years g ≤ day → InYear day g (day - days_of_years g)
  guess_right h = in_year day g (fewer_years g day h fits) h (omega (arith, years_low (g + 1)))

  pub guess_some : day < days_of_years g → 1 ≤ g
  guess_some h = go (dec_lt 0 g)
    where
      go : Dec (0 < g) → 1 ≤ g
      go (yes p) = p
      go (no p) = let e : g ≡ 0 = omega arith in absurd (omega (arith, ap days_of_years e, no_years))

  pub guess_before : day < days_of_years g → days_of_years (g - 1) ≤ day
  guess_before h = omega (arith, years_high (g - 1), guess_some h)

  pub guess_late : day < days_of_years g → InYear day (g - 1) (day - days_of_years (g - 1))
  guess_late h =
      let e : g - 1 + 1 ≡ g = omega (arith, guess_some h) in
      in_year day (g - 1) (omega (arith, guess_some h, guess_most)) (guess_before h) (omega (arith, ap days_of_years e))
