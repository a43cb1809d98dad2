-- Two's complement as the machine has it: at 64 bits it is `twos 64`, and a flipped number is the upper half's.
use mathlib.Core.Path.{◌≡◌, sym, ap, ◌∙◌}
use Prim.Native.Nat.{ℕ, ◌-◌, ◌*◌, ◌<◌, ◌≤◌, ◌^◌}
use native.Mathlib.Omega.{arith}
use native.Mathlib.Decide.{dec_lt}
use lib.IntN.{pos, negsuc}
use mir.Syntax.{w64}
use mir.Val.{to_z}
use mir.Facts.{to_z_pos}
use borrow.Author.Tests.{lt-ltb, le-ltb}
use Rattle.signed.specs.Extend.{twos}
use Rattle.signed.proofs.Differences.{minus, sub_lt}

-- the lower half, and the upper
pub lower_half : (k m : ℕ) → 2 * m < 2 ^ k → twos k m ≡ pos m
lower_half k m h = rw (lt-ltb (2 * m) (2 ^ k) h)

pub upper_half : (k m : ℕ) → 2 ^ k ≤ 2 * m → m < 2 ^ k → twos k m ≡ negsuc (2 ^ k - 1 - m)
upper_half k m h l =
    rw (le-ltb (2 * m) (2 ^ k) h) (minus m (2 ^ k) ∙ sub_lt m (2 ^ k) l ∙ ap negsuc (omega arith))

pub machine : (n : ℕ) → n < 2 ^ 64 → to_z w64 n ≡ twos 64 n
machine n h = go (dec_lt n (2 ^ 63))
  where
    go : Dec (n < 2 ^ 63) → to_z w64 n ≡ twos 64 n
    go (yes l) = to_z_pos w64 l ∙ sym (lower_half 64 n (omega arith))
    go (no l) = rw (le-ltb n (2 ^ 63) (omega arith)) (ap negsuc (omega arith)) ∙ sym (upper_half 64 n (omega arith) h)
