-- Seconds counted towards 2050, in both directions: which counts 32 bits hold, and that the sums fit.
use mathlib.Core.Path.{◌≡◌, sym, ◌∙◌, subst}
use mathlib.Core.Bool.{true, false}
use Prim.Native.Nat.{ℕ, suc, ◌+◌, ◌<◌, ◌≤◌, ◌^◌}
use native.Mathlib.Omega.{arith}
use lib.Dec.{T}
use lib.IntN.{ℤ, pos, negsuc, ◌+ℤ◌, ◌-ℤ◌, +ℤ_assoc}
use lib.Signed.{lt_z}
use mir.Syntax.{w64}
use mir.Val.{SFits}
use borrow.Author.Tests.{lt-ltb, le-ltb, le-leb, ltb-true}
use Rattle.refusal.specs.Answers.{gives, refused}
use Rattle.signed.proofs.Differences.{sub_lt, raised, raise, raised_high}
use Rattle.signed.proofs.Tests.{test_ge}
use Rattle.signed.proofs.Sizes.{sum_fits, less_fits, less}
use Rattle.instant.specs.declared.instants.Instant.{Instant}
use Rattle.byte_orders.specs.Orders.{reversed}
use Rattle.counts.specs.Nokia.{nokia_decode, nokia_word, nokia_encode}
use Rattle.instant.specs.Instants.{at}

pub reversed_small : (p : ℕ) → p < 2 ^ 32 → reversed p < 2 ^ 32
unfolding reversed
reversed_small p h = omega arith

-- ---- from a word

pub no_count : (w : ℕ) → 4294967295 < w → nokia_decode w ≡ refused 2
unfolding nokia_decode
no_count w h = rw (le-ltb w 4294967296 h)

pub counted : (w : ℕ) → w ≤ 4294967295 → nokia_decode w ≡ gives (at (pos (reversed w) -ℤ pos 4294967295 +ℤ pos 2524608000) 0)
unfolding nokia_decode
counted w h = rw (lt-ltb w 4294967296 (omega arith))

pub count_fits : (p : ℕ) → p < 2 ^ 32 → SFits w64 (pos p -ℤ pos 4294967295) × SFits w64 (pos p -ℤ pos 4294967295 +ℤ pos 2524608000)
count_fits p h =
    (less_fits (pos p) 4294967295 (omega arith), sum_fits (pos p -ℤ pos 4294967295) (pos 2524608000) (omega (arith, less (pos p) 4294967295)))

-- ---- from an instant. 1,770,359,295 is 4,294,967,295 less 2,524,608,000

early_count : (z : ℤ) → lt_z z (negsuc 1770359294) ≡ true → nokia_word (z +ℤ pos 1770359295) ≡ refused 8
early_count (pos a) h = absurd (subst T (sym h) tt)
early_count (negsuc n) h = rw (sub_lt 1770359295 (suc n) (omega (arith, ltb-true 1770359294 n h)))

late_count : (z : ℤ) → lt_z (pos 2524608000) z ≡ true → nokia_word (z +ℤ pos 1770359295) ≡ refused 8
late_count (pos a) h = rw (le-ltb (a + 1770359295) 4294967296 (omega (arith, ltb-true 2524608000 a h)))
late_count (negsuc n) h = absurd (subst T (sym h) tt)

module _ (z : ℤ) (l : lt_z z (negsuc 1770359294) ≡ false) (h : lt_z (pos 2524608000) z ≡ false) where
  pub count : z +ℤ pos 1770359295 ≡ pos (raised 1770359295 z)
  count = raise 1770359295 z (test_ge l) (omega arith)

  pub count_small : raised 1770359295 z < 2 ^ 32
  count_small = omega (arith, raised_high 1770359295 z (test_ge l) (omega arith) (test_ge h))

module _ (t : Instant) (n : t.nanos ≤ 999999999) where
  by_count : nokia_encode t ≡ nokia_word (t.seconds +ℤ pos 1770359295)
  unfolding nokia_encode
  by_count = rw (le-leb t.nanos 999999999 n, +ℤ_assoc t.seconds (pos 4294967295) (negsuc 2524607999))

  pub early : lt_z t.seconds (negsuc 1770359294) ≡ true → nokia_encode t ≡ refused 8
  early l = by_count ∙ early_count t.seconds l

  pub late : lt_z (pos 2524608000) t.seconds ≡ true → nokia_encode t ≡ refused 8
  late h = by_count ∙ late_count t.seconds h

  pub in_range_lem : lt_z t.seconds (negsuc 1770359294) ≡ false → lt_z (pos 2524608000) t.seconds ≡ false → nokia_encode t ≡ gives (pos (reversed (raised 1770359295 t.seconds)))
  in_range_lem l h = by_count ∙ rw (count t.seconds l h, lt-ltb (raised 1770359295 t.seconds) 4294967296 (count_small t.seconds l h))
