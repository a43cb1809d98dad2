-- A text as it is read: its first byte settles the sign, and what is left of the digits settles the number, a byte at a
-- time. Assumes nothing.
use Rattle.std.proofs.Common.{Bool, ◌&&◌, cond, true, false, eqb, inl, inr, ◌⊎◌, take, option_and_then, None, Some, ◌≡◌, ℕ, ◌+◌, ◌-◌, ◌*◌, ◌^◌, ◌<◌, ◌≤◌, List, [], ◌∷◌, length, get_or, drop, refl, pow-suc, add-one, arith, drop_of_length-le, drop-cons, le-ltb, lt-ltb}
use native.Mathlib.Nat.{pow-le-pow_right}
use borrow.Author.Tests.{eqb-true, eqb-false}
use lib.Pointwise.{pointwise}
use Rattle.std.proofs.lemmas.Bool.{false≢true, true≢false}
use Rattle.decimal.specs.Read.{behind, natural_of, positive, negative, number_in}

-- 19 digits are below 10^19, and one more digit is below ten times as much
pub small : (i : ℕ) → i < 19 → 10 ^ i ≤ 1000000000000000000
small i h = pow-le-pow_right {n = 10} (omega arith) {i = i} {j = 18} (omega arith)

pub grown : (i v d : ℕ) → v < 10 ^ i → d < 10 → v * 10 + d < 10 ^ (i + 1)
grown i v d h l = rw (add-one i, pow-suc 10 i) (omega arith)

-- the byte at i, and the end
module _ (s : List ℕ) (i v : ℕ) where
  pub other : i < length s → (get_or s i 0 < 48) ⊎ (57 < get_or s i 0) → behind v (drop i s) ≡ None
  unfolding behind
  other h (inl l) = rw (drop-cons s i 0 h) (simp (lt-ltb (get_or s i 0) 48 l))
  other h (inr g) = rw (drop-cons s i 0 h) (simp (le-ltb (get_or s i 0) 48 (omega arith), lt-ltb 57 (get_or s i 0) g))

  pub more : (d : ℕ) → i < length s → 48 ≤ get_or s i 0 → get_or s i 0 ≤ 57 → d ≡ get_or s i 0 - 48
      → behind v (drop i s) ≡ behind (v * 10 + d) (drop (i + 1) s)
  unfolding behind
  more d h l g e = rw (e, add-one i, drop-cons s i 0 h) (simp (le-ltb (get_or s i 0) 48 l, le-ltb 57 (get_or s i 0) g))

  pub end : length s ≤ i → behind v (drop i s) ≡ Some v
  unfolding behind
  end h = rw (drop_of_length-le s h)

-- a text by how long it is
pub empty : (s : List ℕ) → eqb (length s) 0 ≡ true → None ≡ natural_of s
unfolding natural_of
empty s e = simp (lt-ltb (length s) 1 (omega (arith, eqb-true (length s) 0 e)))

pub too_long : (s : List ℕ) → 19 < length s → None ≡ natural_of s
unfolding natural_of
too_long s h = simp (le-ltb (length s) 1 (omega arith), lt-ltb 19 (length s) h)

pub short : (s : List ℕ) → eqb (length s) 0 ≡ false → length s ≤ 19 → natural_of s ≡ behind 0 s
unfolding natural_of
short s e h = simp (le-ltb (length s) 1 (omega (arith, eqb-false (length s) 0 e)), le-ltb 19 (length s) h)

-- a text by whether it begins with a minus
pub minus : (s : List ℕ) → pointwise eqb (take 1 s) (45 ∷ []) ≡ true → number_in s ≡ option_and_then negative (natural_of (drop 1 s))
unfolding number_in
minus [] e = absurd (false≢true e)
minus (b ∷ bs) e = by_test (eqb b 45) e
  where
    by_test : (t : Bool) → (t && true) ≡ true → cond t (option_and_then negative (natural_of bs)) (option_and_then positive (natural_of (b ∷ bs))) ≡ option_and_then negative (natural_of bs)
    by_test true e = refl
    by_test false e = absurd (false≢true e)

pub no_minus : (s : List ℕ) → pointwise eqb (take 1 s) (45 ∷ []) ≡ false → number_in s ≡ option_and_then positive (natural_of s)
unfolding number_in natural_of
no_minus [] e = refl
no_minus (b ∷ bs) e = by_test (eqb b 45) e
  where
    by_test : (t : Bool) → (t && true) ≡ false → cond t (option_and_then negative (natural_of bs)) (option_and_then positive (natural_of (b ∷ bs))) ≡ option_and_then positive (natural_of (b ∷ bs))
    by_test true e = absurd (true≢false e)
    by_test false e = refl
