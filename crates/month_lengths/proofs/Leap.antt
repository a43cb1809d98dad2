-- The leap rule of a year that is counted from -10000: 400 divides 10000, so it reads the same.
use mathlib.Core.Path.{◌≡◌, refl, ◌∙◌}
use mathlib.Core.Bool.{Bool, true, false, not, ◌&&◌, ◌||◌}
use Prim.Native.Nat.{ℕ, zero, suc, ◌+◌, ◌-◌, ◌*◌, ◌/◌, ◌%◌, ◌<◌, ◌≤◌}
use native.Mathlib.Omega.{arith}
use native.Mathlib.Decide.{dec_lt}
use lib.Dec.{eqb}
use borrow.Author.Tests.{lt-ltb, le-ltb, eqb-true, eqb-false, eq-eqb, ne_eqb}
use Rattle.month_lengths.specs.Lengths.{divides, leap, year_at}

-- the rule, of the year n years after -10000
abbrev pub leap_n : ℕ → Bool
leap_n n = (eqb (n % 4) 0 && not (eqb (n % 100) 0)) || eqb (n % 400) 0

-- a test against 0 is the same of two numbers that are 0 together
same_zero : (a b : ℕ) → (a ≡ 0 → b ≡ 0) → (b ≡ 0 → a ≡ 0) → eqb a 0 ≡ eqb b 0
same_zero a b f g = go (eqb b 0) refl
  where
    go : (t : Bool) → eqb b 0 ≡ t → eqb a 0 ≡ t
    go true e = eq-eqb a 0 (g (eqb-true b 0 e))
    go false e = ne_eqb a 0 (λ q. eqb-false b 0 e (f q))

-- d divides the year n years after -10000 where it divides n. Of d it is asked that it divides 10000
module _ (d : ℕ) (low : (n : ℕ) → n < 10000 → (suc (10000 - suc n) % d ≡ 0 → n % d ≡ 0) × (n % d ≡ 0 → suc (10000 - suc n) % d ≡ 0))
    (high : (n : ℕ) → 10000 ≤ n → ((n - 10000) % d ≡ 0 → n % d ≡ 0) × (n % d ≡ 0 → (n - 10000) % d ≡ 0)) where
  divides_at : (n : ℕ) → divides d (year_at n) ≡ eqb (n % d) 0
  divides_at n = go (dec_lt n 10000)
    where
      go : Dec (n < 10000) → divides d (year_at n) ≡ eqb (n % d) 0
      go (yes h) = rw (lt-ltb n 10000 h) (same_zero (suc (10000 - suc n) % d) (n % d) (low n h).0 (low n h).1)
      go (no h) = let k : 10000 ≤ n = omega arith in rw (le-ltb n 10000 k) (same_zero ((n - 10000) % d) (n % d) (high n k).0 (high n k).1)

divides_4 : (n : ℕ) → divides 4 (year_at n) ≡ eqb (n % 4) 0
divides_4 = divides_at 4 (λ n h. omega arith) (λ n h. omega arith)

divides_100 : (n : ℕ) → divides 100 (year_at n) ≡ eqb (n % 100) 0
divides_100 = divides_at 100 (λ n h. omega arith) (λ n h. omega arith)

divides_400 : (n : ℕ) → divides 400 (year_at n) ≡ eqb (n % 400) 0
divides_400 = divides_at 400 (λ n h. omega arith) (λ n h. omega arith)

pub leap_at : (n : ℕ) → leap (year_at n) ≡ leap_n n
unfolding leap
leap_at n = λ i. (divides_4 n i && not (divides_100 n i)) || divides_400 n i

and_false : (x y : Bool) → ((x && false) || y) ≡ y
and_false true y = refl
and_false false y = refl

and_true : (x : Bool) → ((x && true) || false) ≡ x
and_true true = refl
and_true false = refl

-- of the numbers that 100 divides, 16 divides those that 400 divides
by_16 : (k r : ℕ) → r < 4 → (400 * k + 100 * r) % 16 ≡ 0 → r ≡ 0
by_16 k zero h e = refl
by_16 k (suc zero) h e = absurd (omega arith)
by_16 k (suc (suc zero)) h e = absurd (omega arith)
by_16 k (suc (suc (suc zero))) h e = absurd (omega arith)
by_16 k (suc (suc (suc (suc r)))) h e = absurd (omega arith)

sixteen : (n : ℕ) → n % 100 ≡ 0 → n % 16 ≡ 0 → n % 400 ≡ 0
sixteen n h e =
    let m : n ≡ 400 * (n / 400) + 100 * (n % 400 / 100) = omega arith in
    omega (arith, by_16 (n / 400) (n % 400 / 100) (omega arith) (rw (← m) e))

-- by whether 100 divides n
pub leap_century : (n : ℕ) → n % 100 ≡ 0 → leap (year_at n) ≡ eqb (n % 16) 0
leap_century n h =
    leap_at n
    ∙ rw (eq-eqb (n % 100) 0 h) (and_false (eqb (n % 4) 0) (eqb (n % 400) 0))
    ∙ same_zero (n % 400) (n % 16) (λ e. omega arith) (sixteen n h)

pub leap_other : (n : ℕ) → (n % 100 ≡ 0 → ⊥) → leap (year_at n) ≡ eqb (n % 4) 0
leap_other n h = leap_at n ∙ rw (ne_eqb (n % 100) 0 h, ne_eqb (n % 400) 0 (λ e. h (omega arith))) (and_true (eqb (n % 4) 0))
