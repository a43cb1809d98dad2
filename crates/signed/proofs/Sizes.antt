-- How large signed sums, products and quotients are.
use mathlib.Core.Path.{◌≡◌, refl}
use Prim.Native.Nat.{ℕ, zero, suc, ◌+◌, ◌-◌, ◌*◌, ◌/◌, ◌<◌, ◌≤◌, ◌^◌}
use native.Mathlib.Omega.{arith}
use native.Mathlib.Decide.{dec_lt}
use lib.Dec.{leb→le}
use lib.IntN.{ℤ, pos, negsuc, sub_ℕ, neg_ℤ, ◌+ℤ◌, ◌-ℤ◌, ◌*ℤ◌}
use lib.Signed.{mag, ◌≤ℤ◌}
use mir.Syntax.{w64}
use mir.Val.{SFits}
use Rattle.signed.specs.Floor.{quotient}
use Rattle.signed.proofs.Differences.{sub_ge, sub_lt, neg_plus}

difference : (a b : ℕ) → mag (sub_ℕ a b) ≤ a + b
difference a b = go (dec_lt a b)
  where
    go : Dec (a < b) → mag (sub_ℕ a b) ≤ a + b
    go (yes h) = rw (sub_lt a b h) (omega arith)
    go (no h) = rw (sub_ge a b (omega arith)) (omega arith)

pub sum : (a b : ℤ) → mag (a +ℤ b) ≤ suc (mag a + mag b)
sum (pos a) (pos b) = omega arith
sum (pos a) (negsuc b) = omega (arith, difference a (suc b))
sum (negsuc a) (pos b) = omega (arith, difference b (suc a))
sum (negsuc a) (negsuc b) = omega arith

opposite : (n : ℕ) → mag (neg_ℤ (pos n)) ≤ n - 1
opposite zero = omega arith
opposite (suc n) = omega arith

pub less : (a : ℤ) (n : ℕ) → mag (a -ℤ pos n) ≤ suc (mag a + n)
less a n = omega (arith, sum a (neg_ℤ (pos n)), opposite n)

-- a sum, and a difference, that fits 64 bits
pub sum_fits : (a b : ℤ) → suc (mag a + mag b) < 2 ^ 63 → SFits w64 (a +ℤ b)
sum_fits a b h = record { sfits = omega (arith, sum a b) }

pub less_fits : (a : ℤ) (n : ℕ) → suc (mag a + n) < 2 ^ 63 → SFits w64 (a -ℤ pos n)
less_fits a n h = record { sfits = omega (arith, less a n) }

-- k times a number, and that with less than k more
pub times : (z : ℤ) (k : ℕ) → 0 < k → mag (z *ℤ pos k) < suc (mag z) * k
times (pos a) k h = omega arith
times (negsuc a) k h = omega (arith, opposite (suc a * k))

pub times_plus : (z : ℤ) (k n : ℕ) → n < k → mag (z *ℤ pos k +ℤ pos n) < suc (mag z) * k
times_plus (pos a) k n h = omega arith
times_plus (negsuc a) k n h = rw (neg_plus (suc a * k) n, sub_lt n (suc a * k) (omega arith)) (omega arith)

-- a quotient
pub floored : (z : ℤ) (d : ℕ) → mag (quotient z d) ≡ mag z / d
floored (pos a) d = refl
floored (negsuc a) d = refl

-- between -(n + 1) and n
pub within : (n : ℕ) (z : ℤ) → negsuc n ≤ℤ z → z ≤ℤ pos n → mag z ≤ n
within n (pos a) l h = leb→le a n h.le
within n (negsuc a) l h = leb→le a n l.le
