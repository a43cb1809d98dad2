-- Reading what was written gives the number back: each digit that `digits` puts behind a number's others is the one by
-- which `behind` goes on from it. Assumes nothing.
use Rattle.std.proofs.Common.{ne_eqb, take, eqb, false, refl, Some, option_and_then, ◌≡◌, ℕ, zero, suc, ◌+◌, ◌*◌, ◌/◌, ◌%◌, ◌^◌, ◌<◌, ◌≤◌, List, [], ◌∷◌, ◌++◌, length, get_or, ℤ, pos, negsuc, ap, ◌∙◌, append-nil, arith, w64, SFits, le-ltb}
use lib.Pointwise.{pointwise}
use native.Mathlib.Decide.{dec_lt}
use Rattle.decimal.specs.Read.{behind, natural_of, positive, negative, number_in}
use Rattle.decimal.specs.Write.{decimal_digits, show_nat, show_int}
use Rattle.decimal.proofs.Reading.{no_minus}
use Rattle.decimal.proofs.Writing.{more_digits, last_digit, tenth, length_show}

one : (v d : ℕ) (t : List ℕ) → d < 10 → behind v ((48 + d) ∷ t) ≡ behind (v * 10 + d) t
unfolding behind
one v d t h =
    simp (le-ltb (48 + d) 48 (omega arith), le-ltb 57 (48 + d) (omega arith)) (ap (λ (x : ℕ). behind x t) (omega arith))

-- the digits of n are read as n
back_last : (k n : ℕ) (t : List ℕ) → n < 10 → behind 0 (decimal_digits (suc k) n ++ t) ≡ behind n t
back_last k n t h = ap (behind 0) (last_digit k n t h) ∙ one 0 n t h ∙ ap (λ (x : ℕ). behind x t) (omega arith)

back : (k n : ℕ) (t : List ℕ) → n < 10 ^ suc k → behind 0 (decimal_digits (suc k) n ++ t) ≡ behind n t
back zero n t h = back_last zero n t (omega arith)
back (suc k) n t h = go (dec_lt n 10) (back k (n / 10) ((48 + n % 10) ∷ t) (tenth (suc k) n h))
  where
    go : Dec (n < 10) → behind 0 (decimal_digits (suc k) (n / 10) ++ ((48 + n % 10) ∷ t)) ≡ behind (n / 10) ((48 + n % 10) ∷ t)
        → behind 0 (decimal_digits (suc (suc k)) n ++ t) ≡ behind n t
    go (yes l) e = back_last (suc k) n t l
    go (no l) e =
        ap (behind 0) (more_digits (suc k) n t (omega arith)) ∙ e ∙ one (n / 10) (n % 10) t (omega arith)
        ∙ ap (λ (x : ℕ). behind x t) (omega arith)

-- the first of them is no minus
first : (k n : ℕ) (t : List ℕ) → n < 10 ^ suc k → 48 ≤ get_or (decimal_digits (suc k) n ++ t) 0 0
first zero n t h = rw (last_digit zero n t (omega arith)) (omega arith)
first (suc k) n t h = go (dec_lt n 10) (first k (n / 10) ((48 + n % 10) ∷ t) (tenth (suc k) n h))
  where
    go : Dec (n < 10) → 48 ≤ get_or (decimal_digits (suc k) (n / 10) ++ ((48 + n % 10) ∷ t)) 0 0
        → 48 ≤ get_or (decimal_digits (suc (suc k)) n ++ t) 0 0
    go (yes l) g = rw (last_digit (suc k) n t l) (omega arith)
    go (no l) g = rw (more_digits (suc k) n t (omega arith)) g

filled : (s : List ℕ) → 48 ≤ get_or s 0 0 → 0 < length s
filled [] h = absurd (omega arith)
filled (b ∷ bs) h = omega arith

starts : (s : List ℕ) → 48 ≤ get_or s 0 0 → pointwise eqb (take 1 s) (45 ∷ []) ≡ false
starts [] h = absurd (omega arith)
starts (b ∷ bs) h = rw (ne_eqb b 45 (λ e. omega arith)) refl

module _ (n : ℕ) (h : n < 10 ^ 19) where
  first_byte : 48 ≤ get_or (show_nat n) 0 0
  unfolding show_nat
  first_byte = rw (← append-nil (decimal_digits 19 n)) (first 18 n [] h)

  read_back : behind 0 (show_nat n) ≡ Some n
  unfolding show_nat behind
  read_back = rw (← append-nil (decimal_digits 19 n)) (back 18 n [] h)

  natural_back : natural_of (show_nat n) ≡ Some n
  unfolding natural_of
  natural_back =
      simp (le-ltb (length (show_nat n)) 1 (filled (show_nat n) first_byte), le-ltb 19 (length (show_nat n)) (length_show n)) read_back

pub number_back : (z : ℤ) → SFits w64 z → number_in (show_int z) ≡ Some z
unfolding show_int number_in positive negative
number_back (pos n) f =
    let h : n < 10 ^ 19 = omega (arith, f.sfits) in
    let b = first_byte n h in
    no_minus (show_nat n) (starts (show_nat n) b) ∙ ap (option_and_then positive) (natural_back n h)
    ∙ simp (le-ltb 9223372036854775807 n (omega (arith, f.sfits)))
number_back (negsuc n) f =
    let h : suc n < 10 ^ 19 = omega (arith, f.sfits) in
    ap (option_and_then negative) (natural_back (suc n) h) ∙ simp (le-ltb 9223372036854775808 (suc n) (omega (arith, f.sfits)))
