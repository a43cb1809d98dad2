-- A word of layout 16 is a day above its ticks: made of the two, and read back.
use mathlib.Core.Path.{◌≡◌, ap, ◌∙◌}
use mathlib.Core.Bool.{true, ◌&&◌}
use Prim.Native.Nat.{ℕ, suc, ◌+◌, ◌-◌, ◌*◌, ◌/◌, ◌%◌, ◌<◌, ◌^◌}
use native.Mathlib.Omega.{arith}
use lib.Dec.{leb}
use lib.IntN.{ℤ, pos, negsuc, neg_ℤ, ◌+ℤ◌, ◌*ℤ◌}
use lib.Signed.{mag, lt_z, le_z}
use mir.Syntax.{w64}
use mir.Val.{SFits, of_z}
use borrow.Author.Tests.{lt-ltb, le-leb, ltb-true, leb-true}
use Rattle.refusal.specs.Answers.{gives}
use Rattle.signed.specs.Extend.{twos}
use Rattle.signed.proofs.Differences.{sub_lt, neg_plus}
use Rattle.signed.proofs.Extend.{lower_half, upper_half}
use Rattle.signed.proofs.Tests.{and_left}
use Rattle.counts.specs.Sql.{sql_day, sql_ticks, day_word}

-- below zero: -(a + 1) times c, and less than c more
pub below_zero : (a c k : ℕ) → k < c → negsuc a *ℤ pos c +ℤ pos k ≡ negsuc (a * c + (c - suc k))
below_zero a c k l = neg_plus (suc a * c) k ∙ sub_lt k (suc a * c) (omega arith) ∙ ap negsuc (omega arith)

-- of a word that is made
pub read : (d : ℤ) (k : ℕ) → mag d < 2 ^ 31 → k < 2 ^ 32 → let n = of_z w64 (d *ℤ pos (2 ^ 32) +ℤ pos k) in (sql_day n ≡ d) × (sql_ticks n ≡ k)
read (pos a) k h l =
    let q : (a * 2 ^ 32 + k) / 2 ^ 32 % 2 ^ 32 ≡ a = omega arith in
    (ap (twos 32) q ∙ lower_half 32 a (omega arith), omega arith)
read (negsuc a) k h l =
    let n = 2 ^ 64 - suc (a * 2 ^ 32 + (2 ^ 32 - suc k)) in
    let e : n ≡ (2 ^ 32 - suc a) * 2 ^ 32 + k = omega arith in
    let q : n / 2 ^ 32 % 2 ^ 32 ≡ 2 ^ 32 - suc a = rw e (omega arith) in
    rw (below_zero a (2 ^ 32) k l)
    (ap (twos 32) q ∙ upper_half 32 (2 ^ 32 - suc a) (omega arith) (omega arith) ∙ ap negsuc (omega arith), rw e (omega arith))

-- and of any word
pub whole : (w : ℤ) → SFits w64 w → let n = of_z w64 w in (mag (sql_day n) < 2 ^ 31) × (sql_day n *ℤ pos (2 ^ 32) +ℤ pos (sql_ticks n) ≡ w)
whole (pos n) f =
    let q : n / 2 ^ 32 % 2 ^ 32 ≡ n / 2 ^ 32 = omega (arith, f.sfits) in
    let d = ap (twos 32) q ∙ lower_half 32 (n / 2 ^ 32) (omega (arith, f.sfits)) in
    rw d (omega (arith, f.sfits), ap pos (omega arith))
whole (negsuc a) f =
    let n = 2 ^ 64 - suc a in
    let h = n / 2 ^ 32 in
    let q : h % 2 ^ 32 ≡ h = omega arith in
    let d = ap (twos 32) q ∙ upper_half 32 h (omega (arith, f.sfits)) (omega arith) in
    rw d (omega (arith, f.sfits), below_zero (2 ^ 32 - 1 - h) (2 ^ 32) (n % 2 ^ 32) (omega arith) ∙ ap negsuc (omega (arith, f.sfits)))

-- a day that 32 signed bits hold
pub day_held : (d : ℤ) (k : ℕ) → mag d < 2 ^ 31 → day_word d k ≡ gives (d *ℤ pos (2 ^ 32) +ℤ pos k)
day_held (pos a) k h = rw (lt-ltb a (2 ^ 31) h)
day_held (negsuc a) k h = rw (le-leb a 2147483647 (omega arith))

pub small_day : (d : ℤ) → le_z (neg_ℤ (pos (2 ^ 31))) d && lt_z d (pos (2 ^ 31)) ≡ true → mag d < 2 ^ 31
small_day (pos a) e = ltb-true a (2 ^ 31) e
small_day (negsuc a) e = omega (arith, leb-true a 2147483647 (and_left (leb a 2147483647) true e))
