-- Seconds on a day: how large they are, and the tests of the time of day and of the window as the code makes them.
use mathlib.Core.Path.{◌≡◌}
use mathlib.Core.Bool.{true, false}
use Prim.Native.Nat.{ℕ, zero, suc, ◌*◌, ◌<◌, ◌≤◌, ◌^◌}
use native.Mathlib.Omega.{arith}
use lib.IntN.{ℤ, pos, negsuc, neg_ℤ, ◌+ℤ◌, ◌*ℤ◌}
use lib.Signed.{mag, lt_z}
use mir.Syntax.{w64}
use mir.Val.{SFits}
use borrow.Author.Tests.{lt-ltb}
use Rattle.refusal.specs.Answers.{gives, refused}
use Rattle.signed.proofs.Differences.{neg_plus, fits}
use Rattle.signed.proofs.Tests.{ge_le_z, and_false}
use Rattle.day_time.specs.Times.{in_window, good_time, seconds_from}
use Rattle.day_time.specs.Answers.{seconds_on}

-- ---- sizes

neg_fits : (x : ℕ) → x ≤ 2 ^ 63 → SFits w64 (neg_ℤ (pos x))
neg_fits zero h = record { sfits = omega arith }
neg_fits (suc x) h = record { sfits = omega arith }

pub seconds_fit : (z : ℤ) (t : ℕ) → mag z < 2 ^ 31 → t < 86400 → SFits w64 (z *ℤ pos 86400 +ℤ pos t)
seconds_fit (pos a) t h l = record { sfits = omega arith }
seconds_fit (negsuc a) t h l = rw (neg_plus (suc a * 86400) t) (fits w64 t (suc a * 86400) (omega arith) (omega arith))

-- ---- tests

pub time_good : (h m s : ℕ) → h < 24 → m < 60 → s < 60 → good_time h m s ≡ true
time_good h m s p q r = rw (lt-ltb h 24 p, lt-ltb m 60 q, lt-ltb s 60 r)

pub window_good : (s : ℤ) → lt_z s (negsuc 377705023200) ≡ false → lt_z (pos 253402207200) s ≡ false → in_window s ≡ true
window_good s l h = rw (ge_le_z s (negsuc 377705023200) l) (ge_le_z (pos 253402207200) s h)

-- ---- what they make of an answer

pub outside : (z : ℤ) (h m s : ℕ) → in_window (seconds_from z h m s) ≡ false → seconds_on z h m s ≡ refused 3
outside z h m s e = rw (e, and_false (good_time h m s))

pub inside : (z : ℤ) (h m s : ℕ) → good_time h m s ≡ true → in_window (seconds_from z h m s) ≡ true → seconds_on z h m s ≡ gives (seconds_from z h m s)
inside z h m s t e = rw (t, e)
