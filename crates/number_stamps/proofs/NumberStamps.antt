-- What the composites in two numbers say, by the tests that the code makes, and that no sum in them is cut.
use mathlib.Core.Path.{◌≡◌, refl, ◌∙◌}
use mathlib.Core.Bool.{true, false, false≢true}
use Prim.Native.Nat.{ℕ, suc, ◌+◌, ◌-◌, ◌*◌, ◌/◌, ◌%◌, ◌^◌, ◌≤◌, ◌<◌}
use native.Mathlib.Omega.{arith}
use native.Mathlib.Decide.{dec_lt}
use lib.IntN.{ℤ, pos, negsuc, ◌+ℤ◌, ◌-ℤ◌}
use lib.Signed.{lt_z}
use mir.Syntax.{w32, w64}
use mir.Val.{SFits}
use borrow.Author.Tests.{lt-ltb, le-ltb, ltb-true, ltb-false}
use Rattle.refusal.specs.Answers.{gives, refused}
use Rattle.signed.proofs.Differences.{minus, neg_plus, sub_ge, sub_lt}
use Rattle.number_stamps.specs.NumberStamps.{ticks_of, filetime_hilo, unix_sec_nsec}
use Rattle.instant.specs.Instants.{at}

-- ---- filetime_hilo

pub top_bit : (low high : ℕ) → 2147483647 < high → filetime_hilo low high ≡ refused 2
unfolding filetime_hilo
top_bit low high h = rw (le-ltb (ticks_of low high) (2 ^ 63) (omega arith))

pub no_top_bit : (low high : ℕ) → high ≤ 2147483647 → low < 2 ^ 32 → filetime_hilo low high ≡
    gives (at (pos (ticks_of low high / 10000000) -ℤ pos 11644473600) (ticks_of low high % 10000000 * 100))
unfolding filetime_hilo
no_top_bit low high h l = rw (lt-ltb (ticks_of low high) (2 ^ 63) (omega arith))

-- ---- vmsd

pub wider : (z : ℤ) → SFits w32 z → SFits w64 z
wider z f = record { sfits = omega (arith, f.sfits) }

-- ---- unix_sec_nsec

-- the largest seconds that a carry of at most 4 leaves room for
room : (n : ℕ) → n < 2 ^ 32 → pos 9223372036854775807 -ℤ pos (n / 1000000000) ≡ pos (9223372036854775807 - n / 1000000000)
room n l = minus 9223372036854775807 (n / 1000000000) ∙ sub_ge 9223372036854775807 (n / 1000000000) (omega arith)

pub room_fits : (n : ℕ) → n < 2 ^ 32 → SFits w64 (pos 9223372036854775807 -ℤ pos (n / 1000000000))
room_fits n l = rw (room n l) (record { sfits = omega arith })

pub no_room : (s : ℤ) (n : ℕ) → n < 2 ^ 32 → lt_z (pos 9223372036854775807 -ℤ pos (n / 1000000000)) s ≡ true → unix_sec_nsec s n ≡ refused 12
unfolding unix_sec_nsec
no_room (pos a) n l h =
    let r = ltb-true (9223372036854775807 - n / 1000000000) a (rw (room n l) at h) in
    rw (le-ltb (a + n / 1000000000) (2 ^ 63) (omega arith))
no_room (negsuc a) n l h = absurd (false≢true (rw (room n l) at h))

-- a number below zero and a few more
below : (a k : ℕ) → a < 2 ^ 63 → k < 2 ^ 63 → SFits w64 (negsuc a +ℤ pos k) × (lt_z (negsuc a +ℤ pos k) (pos (2 ^ 63)) ≡ true)
below a k h l = go (dec_lt k (suc a))
  where
    go : Dec (k < suc a) → SFits w64 (negsuc a +ℤ pos k) × (lt_z (negsuc a +ℤ pos k) (pos (2 ^ 63)) ≡ true)
    go (yes m) = rw (neg_plus (suc a) k, sub_lt k (suc a) m) (record { sfits = omega arith }, refl)
    go (no m) = rw (neg_plus (suc a) k, sub_ge k (suc a) (omega arith)) (record { sfits = omega arith }, lt-ltb (k - suc a) (2 ^ 63) (omega arith))

carried : (s : ℤ) (n : ℕ) → n < 2 ^ 32 → SFits w64 s → lt_z (pos 9223372036854775807 -ℤ pos (n / 1000000000)) s ≡ false
    → SFits w64 (s +ℤ pos (n / 1000000000)) × (lt_z (s +ℤ pos (n / 1000000000)) (pos (2 ^ 63)) ≡ true)
carried (pos a) n l f h =
    let r = ltb-false (9223372036854775807 - n / 1000000000) a (rw (room n l) at h) in
    (record { sfits = omega arith }, lt-ltb (a + n / 1000000000) (2 ^ 63) (omega arith))
carried (negsuc a) n l f h = below a (n / 1000000000) f.sfits (omega arith)

module _ (s : ℤ) (n : ℕ) (l : n < 2 ^ 32) (f : SFits w64 s) (h : lt_z (pos 9223372036854775807 -ℤ pos (n / 1000000000)) s ≡ false) where
  pub carry_fits : SFits w64 (s +ℤ pos (n / 1000000000))
  carry_fits = (carried s n l f h).0

  pub carries : unix_sec_nsec s n ≡ gives (at (s +ℤ pos (n / 1000000000)) (n % 1000000000))
  unfolding unix_sec_nsec
  carries = rw (carried s n l f h).1
