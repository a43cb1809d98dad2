-- The months' lengths. What holds of each month of each row is one test that is computed over the row.
use mathlib.Core.Path.{◌≡◌}
use mathlib.Core.Bool.{Bool, true, false, ◌&&◌}
use Prim.Native.Nat.{ℕ, zero, suc, ◌<◌, ◌≤◌}
use native.Mathlib.Omega.{arith}
use native.Mathlib.Decide.{dec_lt}
use lib.Dec.{T, leb, leb→le}
use lib.ListN.{get_or}
use Rattle.month_lengths.specs.Lengths.{months}

-- a test of the numbers below n
abbrev pub each : (ℕ → Bool) → ℕ → Bool
each p zero = true
each p (suc n) = p n && each p n

pub first : (a b : Bool) → T (a && b) → T a
first true b t = tt
first false b t = t

pub other : (a b : Bool) → T (a && b) → T b
other true b t = t
other false b t = absurd t

pub at : (p : ℕ → Bool) (n : ℕ) → T (each p n) → (k : ℕ) → k < n → T (p k)
at p zero t k h = absurd (omega arith)
at p (suc n) t k h = go (dec_lt k n) (at p n (other (p n) (each p n) t) k)
  where
    go : Dec (k < n) → (k < n → T (p k)) → T (p k)
    go (yes l) below = below l
    go (no l) below = let e : n ≡ k = omega arith in rw e at (first (p n) (each p n) t)

-- no month has more than 31 days
short : (b : Bool) → T (each (λ k. leb (get_or (months b) k 0) 31) 12)
short true = tt
short false = tt

pub month_most : (b : Bool) (k : ℕ) → k < 12 → get_or (months b) k 0 ≤ 31
month_most b k h = leb→le (get_or (months b) k 0) 31 (at (λ j. leb (get_or (months b) j 0) 31) 12 (short b) k h)
