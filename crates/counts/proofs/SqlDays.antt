-- Days from 1900-01-01 and ticks of 1/300 second: as a word has them, and as an instant makes them.
use mathlib.Core.Path.{◌≡◌, refl, ap, ◌∙◌}
use mathlib.Core.Bool.{true, false, not}
use Prim.Native.Nat.{ℕ, suc, ◌+◌, ◌*◌, ◌/◌, ◌%◌, ◌<◌, ◌≤◌, ◌^◌}
use native.Mathlib.Omega.{arith}
use native.Mathlib.Decide.{dec_lt}
use lib.Arith.{digits_div, digits_mod}
use lib.Dec.{ltb}
use lib.IntN.{ℤ, pos, negsuc, ◌+ℤ◌, ◌*ℤ◌}
use lib.Signed.{mag, lt_z, le_z}
use mir.Syntax.{w64}
use mir.Val.{SFits}
use borrow.Author.Tests.{lt-ltb, le-ltb, le-leb}
use Rattle.refusal.specs.Answers.{gives, refused}
use Rattle.signed.specs.Floor.{floor_div, floor_rem}
use Rattle.signed.specs.Extend.{twos}
use Rattle.signed.proofs.Floor.{floor_law, shifted}
use Rattle.signed.proofs.Tests.{test_ge, ge_le_z, lt_le_z, and_false}
use Rattle.signed.proofs.Extend.{lower_half, upper_half}
use Rattle.signed.proofs.Sizes.{sum_fits, times, times_plus, floored, within}
use Rattle.instant.specs.declared.instants.Instant.{Instant}
use Rattle.counts.specs.Sql.{sql_day, sql_ticks, tick_nanos, sql_decode, nearest_tick, day_word, rolled, sql_word, sql_encode}
use Rattle.instant.specs.Instants.{at}

-- ---- as a word has them

-- a day of 32 signed bits
half : (m : ℕ) → m < 2 ^ 32 → mag (twos 32 m) < 2 ^ 31
half m h = go (dec_lt m (2 ^ 31))
  where
    go : Dec (m < 2 ^ 31) → mag (twos 32 m) < 2 ^ 31
    go (yes l) = rw (lower_half 32 m (omega arith)) l
    go (no l) = rw (upper_half 32 m (omega arith) h) (omega arith)

-- its seconds fit, from 1900 and from 1970
pub seconds_fit : (w : ℕ) → sql_ticks w < 25920000 → let s = sql_day w *ℤ pos 86400 in let q = sql_ticks w / 300 in
    SFits w64 s × SFits w64 (s +ℤ pos q) × SFits w64 (s +ℤ pos q +ℤ negsuc 2208988799)
seconds_fit w h =
    let d = sql_day w in
    let q = sql_ticks w / 300 in
    let m = half (w / 2 ^ 32 % 2 ^ 32) (omega arith) in
    let s = times_plus d 86400 q (omega arith) in (
      record { sfits = omega (arith, times d 86400 (omega arith)) },
      record { sfits = omega arith },
      sum_fits (d *ℤ pos 86400 +ℤ pos q) (negsuc 2208988799) (omega arith),
    )

tick : (k : ℕ) → (tick_nanos k ≡ k / 300 * 1000000000 + k % 300 * 10000000 / 3) × (k % 300 * 10000000 / 3 < 1000000000)
tick k = (omega arith, omega arith)

tick_seconds : (k : ℕ) → tick_nanos k / 1000000000 ≡ k / 300
tick_seconds k = let t = tick k in ap (λ n. n / 1000000000) t.0 ∙ digits_div (k / 300) t.1

tick_nanos_lem : (k : ℕ) → tick_nanos k % 1000000000 ≡ k % 300 * 10000000 / 3
tick_nanos_lem k = let t = tick k in ap (λ n. n % 1000000000) t.0 ∙ digits_mod (k / 300) t.1

pub no_ticks : (w : ℕ) → 25920000 ≤ sql_ticks w → sql_decode w ≡ refused 5
unfolding sql_decode
no_ticks w h = rw (le-ltb (sql_ticks w) 25920000 h)

pub ticks : (w : ℕ) → let k = sql_ticks w in k < 25920000 → sql_decode w ≡
    gives (at (sql_day w *ℤ pos 86400 +ℤ pos (k / 300) +ℤ negsuc 2208988799) (k % 300 * 10000000 / 3))
unfolding sql_decode
ticks w h = rw (lt-ltb (sql_ticks w) 25920000 h, tick_seconds (sql_ticks w), tick_nanos_lem (sql_ticks w))

-- ---- as an instant makes them

-- a test `z < n + 1`, by the test `n < z`
next : (n : ℕ) (z : ℤ) → lt_z z (pos (suc n)) ≡ not (lt_z (pos n) z)
next n (pos a) = go (dec_lt n a)
  where
    go : Dec (n < a) → ltb a (suc n) ≡ not (ltb n a)
    go (yes h) = rw (lt-ltb n a h, le-ltb a (suc n) (omega arith))
    go (no h) = rw (le-ltb n a (omega arith), lt-ltb a (suc n) (omega arith))
next n (negsuc a) = refl

pub early : (d : ℤ) (k : ℕ) → lt_z d (negsuc 2147483647) ≡ true → day_word d k ≡ refused 8
early d k h = rw (lt_le_z d (negsuc 2147483647) h)

pub late : (d : ℤ) (k : ℕ) → lt_z (pos 2147483647) d ≡ true → day_word d k ≡ refused 8
late d k h = rw (next 2147483647 d, h, and_false (le_z (negsuc 2147483647) d))

module _ (d : ℤ) (k : ℕ) (l : lt_z d (negsuc 2147483647) ≡ false) (h : lt_z (pos 2147483647) d ≡ false) where
  pub in_range_lem : day_word d k ≡ gives (d *ℤ pos 4294967296 +ℤ pos k)
  in_range_lem = rw (ge_le_z d (negsuc 2147483647) l, next 2147483647 d, h)

  pub day_fits : k < 2 ^ 32 → SFits w64 (d *ℤ pos 4294967296) × SFits w64 (d *ℤ pos 4294967296 +ℤ pos k)
  day_fits t =
      let m = within 2147483647 d (test_ge l) (test_ge h) in
      (record { sfits = omega (arith, times d 4294967296 (omega arith)) }, record { sfits = omega (arith, times_plus d 4294967296 k t) })

-- from 1900 there are 25,567 days more than from 1970, and the same time of day
pub since_1900 : (t : Instant) → t.nanos ≤ 999999999 →
    sql_encode t ≡ rolled (floor_div t.seconds 86400 +ℤ pos 25567) (nearest_tick (floor_rem t.seconds 86400 * 1000000000 + t.nanos))
unfolding sql_encode sql_word
since_1900 t h = let e = shifted t.seconds 25567 86400 (omega arith) in rw (le-leb t.nanos 999999999 h, e.0, e.1)

-- the days of seconds of 64 bits are few
pub days_small : (s : ℤ) → SFits w64 s → mag (floor_div s 86400) < 2 ^ 47
days_small s f = omega (arith, f.sfits, floored s 86400)

pub time_small : (s : ℤ) → floor_rem s 86400 < 86400
time_small s = (floor_law s 86400 (omega arith)).1
