-- Digits as they are written, from the last: what is left of the number stands in front of the digits that are there.
-- Assumes nothing.
use Rattle.std.proofs.Common.{refl, ◌≡◌, ℕ, zero, suc, ◌+◌, ◌-◌, ◌/◌, ◌%◌, ◌^◌, ◌<◌, ◌≤◌, Bool, true, false, cond, ltb, List, [], ◌∷◌, ◌++◌, length, ℤ, pos, negsuc, nat_abs, append_assoc, pow-suc, arith, length-append, le-ltb, lt-ltb}
use Rattle.std.proofs.lemmas.Bool.{true≢false}
use borrow.Author.Tests.{ltb-true}
use lib.Signed.{lt_z}
use Rattle.decimal.specs.Write.{decimal_digits, show_nat, show_int}

-- one digit, and the last
pub more_digits : (k n : ℕ) (t : List ℕ) → 10 ≤ n → decimal_digits (suc k) n ++ t ≡ decimal_digits k (n / 10) ++ ((48 + n % 10) ∷ t)
unfolding decimal_digits
more_digits k n t h = simp (le-ltb n 10 h) (append_assoc (decimal_digits k (n / 10)) ((48 + n % 10) ∷ []) t)

pub last_digit : (k n : ℕ) (t : List ℕ) → n < 10 → decimal_digits (suc k) n ++ t ≡ (48 + n) ∷ t
unfolding decimal_digits
last_digit k n t h = simp (lt-ltb n 10 h)

pub tenth : (k n : ℕ) → n < 10 ^ suc k → n / 10 < 10 ^ k
tenth k n h = omega (arith, rw (pow-suc 10 k) at h)

-- the same at a count k that goes down to k - 1
pub down_more : (k n : ℕ) (t : List ℕ) → 0 < k → 10 ≤ n → decimal_digits k n ++ t ≡ decimal_digits (k - 1) (n / 10) ++ ((48 + n % 10) ∷ t)
down_more zero n t p h = absurd (omega arith)
down_more (suc k) n t p h = let e : suc k - 1 ≡ k = omega arith in rw e (more_digits k n t h)

pub down_last : (k n : ℕ) (t : List ℕ) → 0 < k → n < 10 → decimal_digits k n ++ t ≡ (48 + n) ∷ t
down_last zero n t p h = absurd (omega arith)
down_last (suc k) n t p h = last_digit k n t h

pub down_tenth : (k n : ℕ) → 0 < k → n < 10 ^ k → n / 10 < 10 ^ (k - 1)
down_tenth zero n p h = absurd (omega arith)
down_tenth (suc k) n p h = let e : suc k - 1 ≡ k = omega arith in rw e (tenth k n h)

-- a number of two digits or more has one left when its last is written
pub two_left : (k n : ℕ) → 10 ≤ n → n < 10 ^ k → 1 < k
two_left zero n h l = omega arith
two_left (suc zero) n h l = omega arith
two_left (suc (suc k)) n h l = omega arith

-- k digits are at most k bytes
either : (t : Bool) (k : ℕ) (xs ys : List ℕ) → length xs ≤ k → length ys ≤ k → length (cond t xs ys) ≤ k
either true k xs ys h g = h
either false k xs ys h g = g

length_digits : (k n : ℕ) → length (decimal_digits k n) ≤ k
unfolding decimal_digits
length_digits zero n = omega arith
length_digits (suc k) n =
    either (ltb n 10) (suc k) ((48 + n) ∷ []) (decimal_digits k (n / 10) ++ ((48 + n % 10) ∷ [])) (omega arith)
    (omega (arith, length-append (decimal_digits k (n / 10)) ((48 + n % 10) ∷ []), length_digits k (n / 10)))

pub length_show : (n : ℕ) → length (show_nat n) ≤ 19
unfolding show_nat
length_show n = length_digits 19 n

-- a signed number by its sign
pub show_negative : (z : ℤ) → lt_z z (pos 0) ≡ true → show_int z ≡ 45 ∷ show_nat (nat_abs z)
unfolding show_int
show_negative (pos n) e = absurd (omega (arith, ltb-true n 0 e))
show_negative (negsuc n) e = refl

pub show_natural : (z : ℤ) → lt_z z (pos 0) ≡ false → show_int z ≡ show_nat (nat_abs z)
unfolding show_int
show_natural (pos n) e = refl
show_natural (negsuc n) e = absurd (true≢false e)

pub length_int : (z : ℤ) → length (show_int z) ≤ 20
unfolding show_int
length_int (pos n) = omega (arith, length_show n)
length_int (negsuc n) = omega (arith, length_show (suc n))
