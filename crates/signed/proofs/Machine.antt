-- What the machine reads back of a signed number, and what a cast of it asks.
use mathlib.Core.Path.{◌≡◌, ap, ◌∙◌}
use Prim.Native.Nat.{ℕ, zero, suc, ◌<◌, ◌≤◌, ◌^◌}
use native.Mathlib.Omega.{arith}
use lib.Dec.{T}
use lib.IntN.{ℤ, pos, negsuc, nat_abs, sub_ℕ, ◌+ℤ◌, ◌-ℤ◌}
use lib.Signed.{mag, non_neg, ◌≤ℤ◌}
use mir.Syntax.{Width, w64}
use mir.Val.{Fits, SFits, to_z, of_z, hbits}
use mir.Facts.{to_z_pos, to_z-of_z}
use Rattle.signed.specs.Floor.{flipped}
use Rattle.signed.proofs.Differences.{sub_ge, minus, fits, raise, raised}

-- -1 - z is z flipped, and fits where z does
pub flip_is : (z : ℤ) → negsuc 0 -ℤ z ≡ flipped z
flip_is (pos zero) = ap negsuc (omega arith)
flip_is (pos (suc n)) = ap negsuc (omega arith)
flip_is (negsuc n) = sub_ge (suc n) 1 (omega arith) ∙ ap pos (omega arith)

mag_flip : (z : ℤ) → mag (flipped z) ≡ mag z
mag_flip (pos n) = λ i. n
mag_flip (negsuc n) = λ i. n

-- what is read back of the bits of z, and the cast of z, where z is known to be n
pub read_nat : (w : Width) {z : ℤ} {n : ℕ} → z ≡ pos n → n < 2 ^ hbits w → to_z w (of_z w z) ≡ pos n
read_nat w e h = rw e (to_z_pos w h)

pub cast_nat : {w : Width} {z : ℤ} {n : ℕ} → z ≡ pos n → Fits w n → T (non_neg z) × Fits w (nat_abs z)
cast_nat e f = rw e (tt, f)

-- `(z + k) as u64`, where z is above -k - 1: the sum fits, the cast keeps it, and it is z raised by k
pub record Raises (k : ℕ) (z : ℤ) : Type 0 where
  pub fits : SFits w64 (to_z w64 (of_z w64 z) +ℤ pos k)
  pub cast : T (non_neg (to_z w64 (of_z w64 (to_z w64 (of_z w64 z) +ℤ pos k)))) × Fits w64 (nat_abs (to_z w64 (of_z w64 (to_z w64 (of_z w64 z) +ℤ pos k))))
  pub is : nat_abs (to_z w64 (of_z w64 (to_z w64 (of_z w64 z) +ℤ pos k))) ≡ raised k z

pub raises : (k : ℕ) {z : ℤ} {j : ℕ} → SFits w64 z → negsuc j ≤ℤ z → j < k → raised k z < 2 ^ 63 → Raises k z
raises k {z} f l p s =
    let sum : to_z w64 (of_z w64 z) +ℤ pos k ≡ pos (raised k z) = rw (to_z-of_z f) (raise k z l p) in
    let read = read_nat w64 sum s in
    record { fits = rw sum (record { sfits = s }); cast = cast_nat read (omega arith); is = ap nat_abs read }

-- `n as i64 - k`, or of another width: the difference fits, and is n less k
pub record Lowers (w : Width) (n k : ℕ) : Type 0 where
  pub fits : SFits w (to_z w n -ℤ pos k)
  pub is : to_z w (of_z w (to_z w n -ℤ pos k)) ≡ sub_ℕ n k

pub lowers : (w : Width) (n k : ℕ) → n < 2 ^ hbits w → k ≤ 2 ^ hbits w → Lowers w n k
lowers w n k s h =
    let difference : to_z w n -ℤ pos k ≡ sub_ℕ n k = rw (to_z_pos w s) (minus n k) in
    let f : SFits w (to_z w n -ℤ pos k) = rw difference (fits w n k (omega arith) (omega arith)) in
    record { fits = f; is = to_z-of_z f ∙ difference }
