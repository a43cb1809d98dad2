-- Tests of signed numbers, as they held and as they failed, and tests joined by `&&`.
use mathlib.Core.Path.{◌≡◌, refl, sym, subst}
use mathlib.Core.Bool.{Bool, true, false, not, ◌&&◌}
use native.Mathlib.Omega.{arith}
use lib.Dec.{T}
use lib.IntN.{ℤ, pos, negsuc}
use lib.Signed.{mag, lt_z, le_z, ◌≤ℤ◌, ◌<ℤ◌, le_z_yes, lt_z_yes, lt_z_no, clash_ℤ}
use mir.Syntax.{Width}
use mir.Val.{SFits, to_z, of_z}
use mir.Facts.{to_z-of_z}
use borrow.Author.Tests.{ltb-true}

-- a test `z < 0`, as it held and as it failed
neg : (z : ℤ) → lt_z z (pos 0) ≡ true → z ≡ negsuc (mag z)
neg (pos n) e = absurd (omega (arith, ltb-true n 0 e))
neg (negsuc n) e = λ i. negsuc n

nat : (z : ℤ) → lt_z z (pos 0) ≡ false → z ≡ pos (mag z)
nat (pos n) e = λ i. pos n
nat (negsuc n) e = absurd (subst T e tt)

pub test_neg : (w : Width) {z : ℤ} → SFits w z → lt_z (to_z w (of_z w z)) (pos 0) ≡ true → z ≡ negsuc (mag z)
test_neg w {z} f e = neg z (rw (to_z-of_z f) at e)

pub test_nat : (w : Width) {z : ℤ} → SFits w z → lt_z (to_z w (of_z w z)) (pos 0) ≡ false → z ≡ pos (mag z)
test_nat w {z} f e = nat z (rw (to_z-of_z f) at e)

-- a test `a < b`, as it held and as it failed
pub test_lt : {a b : ℤ} → lt_z a b ≡ true → a <ℤ b
test_lt e = lt_z_yes (subst T (sym e) tt)

pub test_ge : {a b : ℤ} → lt_z a b ≡ false → b ≤ℤ a
test_ge e = lt_z_no (subst (λ (t : Bool). T (not t)) (sym e) tt)

-- `b ≤ a` is the other answer to `a < b`
holds : (b : Bool) → T b → b ≡ true
holds true t = refl
holds false t = absurd t

fails : (b : Bool) → (T b → ⊥) → b ≡ false
fails true f = absurd (f tt)
fails false f = refl

pub ge_le_z : (a b : ℤ) → lt_z a b ≡ false → le_z b a ≡ true
ge_le_z a b e = holds (le_z b a) (test_ge {a = a} {b = b} e).le

pub lt_le_z : (a b : ℤ) → lt_z a b ≡ true → le_z b a ≡ false
lt_le_z a b e = fails (le_z b a) (λ t. clash_ℤ (test_lt e) (le_z_yes {a = b} {b = a} t))

-- a test `a ≤ b` that holds
pub le_z_le : (a b : ℤ) → le_z a b ≡ true → a ≤ℤ b
le_z_le a b e = le_z_yes (subst T (sym e) tt)

pub le_le_z : {a b : ℤ} → a ≤ℤ b → le_z a b ≡ true
le_le_z {a} {b} l = holds (le_z a b) l.le

-- both of two tests held
pub and_left : (a b : Bool) → a && b ≡ true → a ≡ true
and_left true b e = refl
and_left false b e = e

pub and_right : (a b : Bool) → a && b ≡ true → b ≡ true
and_right true b e = e
and_right false true e = refl
and_right false false e = e

-- one of two tests failed
pub and_false : (a : Bool) → a && false ≡ false
and_false true = refl
and_false false = refl
