-- The tests of a date and of a day number, as the code makes them.
use mathlib.Core.Path.{◌≡◌}
use mathlib.Core.Bool.{true, false, ◌&&◌}
use Prim.Native.Nat.{ℕ, ◌<◌, ◌≤◌}
use lib.Dec.{leb}
use lib.IntN.{ℤ, pos, negsuc, neg_ℤ}
use lib.Signed.{le_z, lt_z}
use borrow.Author.Tests.{le-leb, lt-leb}
use Rattle.signed.proofs.Tests.{ge_le_z, lt_le_z, and_false}
use Rattle.month_lengths.specs.Lengths.{month_length}
use Rattle.gregorian.specs.Gregorian.{day_number}
use Rattle.gregorian.specs.Dates.{good_month_day, good_day_number}
use Rattle.gregorian.proofs.Days.{first_day, last_day}

-- ---- a year

-- ---- a month and a day of it

module _ (y : ℤ) (m d : ℕ) where
  pub month_early : m < 1 → good_month_day y m d ≡ false
  month_early h = rw (lt-leb 1 m h)

  pub month_late : 12 < m → good_month_day y m d ≡ false
  month_late h = rw (lt-leb m 12 h, and_false (leb 1 m))

  pub day_early : d < 1 → good_month_day y m d ≡ false
  day_early h = rw (lt-leb 1 d h, and_false (leb 1 m && leb m 12))

  pub day_late : month_length y m < d → good_month_day y m d ≡ false
  day_late h = rw (lt-leb d (month_length y m) h) (and_false (leb 1 m && leb m 12 && leb 1 d))

  pub month_day_good : 1 ≤ m → m ≤ 12 → 1 ≤ d → d ≤ month_length y m → good_month_day y m d ≡ true
  month_day_good l h p q = rw (le-leb 1 m l, le-leb m 12 h, le-leb 1 d p) (le-leb d (month_length y m) q)

-- ---- a day number

pub number_early : (z : ℤ) → lt_z z (negsuc 4371586) ≡ true → good_day_number z ≡ false
number_early z h = rw (first_day, lt_le_z z (negsuc 4371586) h)

pub number_late : (z : ℤ) → lt_z (pos 2932896) z ≡ true → good_day_number z ≡ false
number_late z h = rw (last_day, lt_le_z (pos 2932896) z h) (and_false (le_z (day_number (neg_ℤ (pos 9999)) 1 1) z))

pub number_good : (z : ℤ) → lt_z z (negsuc 4371586) ≡ false → lt_z (pos 2932896) z ≡ false → good_day_number z ≡ true
number_good z l h = rw (first_day, last_day, ge_le_z z (negsuc 4371586) l) (ge_le_z (pos 2932896) z h)
