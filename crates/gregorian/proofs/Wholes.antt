-- How many lengths lie whole in a count of days: the number whose start is at most the count, and the next start above it.
-- One law for years and months, over the lengths f and their sums s.
use mathlib.Core.Path.{◌≡◌, ap}
use mathlib.Core.Bool.{cond}
use Prim.Native.Nat.{ℕ, zero, suc, ◌+◌, ◌-◌, ◌<◌, ◌≤◌}
use native.Mathlib.Omega.{arith}
use native.Mathlib.Decide.{dec_lt}
use lib.Dec.{ltb}
use borrow.Author.Tests.{lt-ltb, le-ltb}
use Rattle.gregorian.specs.Dates.{wholes}

module _ (f s : ℕ → ℕ) (step : (n : ℕ) → s (suc n) ≡ s n + f n) where
  grows : (n k : ℕ) → s n ≤ s (n + k)
  grows n zero = let e : n + 0 ≡ n = omega arith in omega (arith, ap s e)
  grows n (suc k) = let e : n + suc k ≡ suc (n + k) = omega arith in omega (arith, ap s e, grows n k, step (n + k))

  -- the sums never fall
  pub rises : (n m : ℕ) → n ≤ m → s n ≤ s m
  rises n m h = let e : n + (m - n) ≡ m = omega arith in omega (arith, ap s e, grows n (m - n))

  -- what starts by a day that another starts after comes before it
  pub fewer : (n m t : ℕ) → s n ≤ t → t < s m → n < m
  fewer n m t l h = go (dec_lt n m)
    where
      go : Dec (n < m) → n < m
      go (yes p) = p
      go (no p) = absurd (omega (arith, rises m n (omega arith)))

  pub whole : (k i j t : ℕ) → i ≤ j → j < i + k → s j ≤ s i + t → s i + t < s (suc j) → wholes f k i t ≡ j
  unfolding wholes
  whole zero i j t a b l u = absurd (omega arith)
  whole (suc k) i j t a b l u = go (dec_lt t (f i)) (whole k (suc i) j (t - f i))
    where
      -- t ends in the length i, or passes it
      here : t < f i → Dec (i < j) → i ≡ j
      here h (yes p) = absurd (omega (arith, step i, rises (suc i) j p))
      here h (no p) = omega arith

      passed : f i ≤ t → Dec (i < j) → suc i ≤ j
      passed h (yes p) = p
      passed h (no p) = let e : i ≡ j = omega arith in absurd (omega (arith, step i, ap (λ n. s (suc n)) e))

      go : Dec (t < f i)
          → (suc i ≤ j → j < suc i + k → s j ≤ s (suc i) + (t - f i) → s (suc i) + (t - f i) < s (suc j) → wholes f k (suc i) (t - f i) ≡ j)
          → cond (ltb t (f i)) i (wholes f k (suc i) (t - f i)) ≡ j
      go (yes h) more = rw (lt-ltb t (f i) h) (here h (dec_lt i j))
      go (no h) more =
          let g : f i ≤ t = omega arith in
          rw (le-ltb t (f i) g) (more (passed g (dec_lt i j)) (omega arith) (omega (arith, step i)) (omega (arith, step i)))
