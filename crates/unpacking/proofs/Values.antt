-- How large the values are that are read.
use Prim.Native.Nat.{ℕ, ◌+◌, ◌*◌, ◌/◌, ◌%◌, ◌^◌, ◌≤◌, ◌<◌}
use native.Mathlib.Nat.{mod-lt, lt_of_lt_of_le, mul-le-mul, le_of_lt}
use native.Mathlib.Omega.{arith}
use lib.Pow.{pow_pos, pow_mono}

-- a field of bits holds less than 2^16
pub bits_small : (p place width : ℕ) → width ≤ 16 → p / 2 ^ place % 2 ^ width < 65536
bits_small p place width h = lt_of_lt_of_le (mod-lt (p / 2 ^ place) (pow_pos width)) (pow_mono {j = 16} h)

-- a small number in small steps from a small offset
pub scaled_small : (o n s : ℕ) → o < 10000 → n < 65536 → s ≤ 60 → o + n * s < 2 ^ 32
scaled_small o n s p q r = omega (arith, mul-le-mul (le_of_lt q) r)
