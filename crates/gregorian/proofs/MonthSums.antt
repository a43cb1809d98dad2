-- The sum of the months' lengths in closed form, and the month of a day by a guess. What holds of each month of each row is
-- one test that is computed over the row.
use mathlib.Core.Path.{◌≡◌, refl, ap}
use mathlib.Core.Bool.{Bool, true, false, ◌&&◌}
use Prim.Native.Nat.{ℕ, suc, ◌+◌, ◌-◌, ◌*◌, ◌/◌, ◌<◌, ◌≤◌}
use native.Mathlib.Omega.{arith}
use native.Mathlib.Numerals.{add-one}
use native.Mathlib.Decide.{dec_lt}
use lib.Dec.{T, leb, eqb, leb→le, eqb→eq}
use lib.ListN.{get_or}
use Rattle.month_lengths.specs.Lengths.{months, days_of_months}
use Rattle.month_lengths.proofs.Months.{each, first, other, at}
use Rattle.gregorian.specs.Parts.{lacking_of, InMonth}
use Rattle.gregorian.proofs.Wholes.{fewer}

-- one month more
pub months_step : (b : Bool) (k : ℕ) → days_of_months b (k + 1) ≡ days_of_months b k + get_or (months b) k 0
unfolding days_of_months
months_step b k = ap (days_of_months b) (add-one k)

pub months_suc : (b : Bool) (k : ℕ) → days_of_months b (suc k) ≡ days_of_months b k + get_or (months b) k 0
unfolding days_of_months
months_suc b k = refl

pub no_months : (b : Bool) → days_of_months b 0 ≡ 0
unfolding days_of_months
no_months b = refl

-- the months passed before a day of a year are fewer than all
pub fewer_months : (b : Bool) (k day : ℕ) → days_of_months b k ≤ day → day < days_of_months b 12 → k < 12
fewer_months b k day l h = fewer (λ j. get_or (months b) j 0) (days_of_months b) (months_suc b) k 12 day l h

-- the days before a month, in closed form
abbrev closed : Bool → ℕ → ℕ
closed b k = (489 * k + 8) / 16 - lacking_of b k

sums : (b : Bool) → T (each (λ k. eqb (days_of_months b k) (closed b k)) 13)
unfolding days_of_months
sums true = tt
sums false = tt

pub closed_is : (b : Bool) (k : ℕ) → k ≤ 12 → days_of_months b k ≡ closed b k
closed_is b k h = eqb→eq (days_of_months b k) (closed b k) (at (λ j. eqb (days_of_months b j) (closed b j)) 13 (sums b) k (omega arith))

pub months_most : (b : Bool) (k : ℕ) → k ≤ 12 → days_of_months b k ≤ 400
months_most b k h = omega (arith, closed_is b k h)

-- a month starts by day 32 of each month before it, and the one after the next not before
starts : (b : Bool) → T (each (λ k. leb (days_of_months b k) (32 * k) && leb (32 * k + 32) (days_of_months b (k + 2))) 11)
unfolding days_of_months
starts true = tt
starts false = tt

last : (b : Bool) → days_of_months b 11 ≤ 32 * 11
unfolding days_of_months
last true = omega arith
last false = omega arith

pub most : (b : Bool) → days_of_months b 12 ≤ 366
unfolding days_of_months
most true = omega arith
most false = omega arith

-- the guess g is the month of the day, or the one before
module _ (b : Bool) (day g : ℕ) (fits : day < days_of_months b 12) (is : day / 32 ≡ g) where
  pub guess_most : g < 12
  guess_most = omega (arith, most b)

  test : g < 11 → T (leb (days_of_months b g) (32 * g) && leb (32 * g + 32) (days_of_months b (g + 2)))
  test h = at (λ k. leb (days_of_months b k) (32 * k) && leb (32 * k + 32) (days_of_months b (k + 2))) 11 (starts b) g h

  pub guess_low : days_of_months b g ≤ day
  guess_low = go (dec_lt g 11)
    where
      go : Dec (g < 11) → days_of_months b g ≤ day
      go (yes h) = omega (arith, leb→le (days_of_months b g) (32 * g) (first (leb (days_of_months b g) (32 * g)) (leb (32 * g + 32) (days_of_months b (g + 2))) (test h)))
      go (no h) = let e : g ≡ 11 = omega (arith, guess_most) in omega (arith, ap (days_of_months b) e, last b)

  pub guess_high : g < 11 → day < days_of_months b (g + 2)
  guess_high h = omega (arith, leb→le (32 * g + 32) (days_of_months b (g + 2)) (other (leb (days_of_months b g) (32 * g)) (leb (32 * g + 32) (days_of_months b (g + 2))) (test h)))

  pub guess_right : day - days_of_months b g < get_or (months b) g 0 → InMonth b day g (day - days_of_months b g)
  guess_right h = record { month = guess_most; is = omega (arith, guess_low); short = h }

  pub guess_early : get_or (months b) g 0 ≤ day - days_of_months b g → InMonth b day (g + 1) (day - days_of_months b g - get_or (months b) g 0)
  guess_early h =
      let l : g < 11 = go (dec_lt g 11) in
      let e : g + 1 + 1 ≡ g + 2 = omega arith in
      record {
        month = omega arith;
        is = omega (arith, guess_low, months_step b g);
        short = omega (arith, guess_low, guess_high l, months_step b g, months_step b (g + 1), ap (days_of_months b) e);
      }
    where
      go : Dec (g < 11) → g < 11
      go (yes p) = p
      go (no p) =
          let e : g + 1 ≡ 12 = omega (arith, guess_most) in
          absurd (omega (arith, guess_low, months_step b g, ap (days_of_months b) e))
