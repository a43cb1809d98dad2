-- A search for the first LF: what was passed is held, and what is left settles the rest. Assumes nothing.
use Prim.Native.Nat.{ℕ, suc, ◌+◌, ◌≤◌, ◌<◌}
use mathlib.Core.Path.{◌≡◌, sym, ◌∙◌}
use mathlib.Core.Bool.{true, false}
use mathlib.Core.List.{List}
use native.Mathlib.Omega.{arith}
use native.Mathlib.Numerals.{add-one}
use borrow.Author.Tests.{eq-eqb, ne_eqb}
use lib.ListN.{length, get_or, drop, drop_of_length-le}
use lib.Seq.{drop-cons}
use Rattle.line_input.specs.Held.{Kept, holds, kept, kept_all, before_lf, has_lf, up_to_lf, Takes}

module _ (h : Kept) (s : List ℕ) (i : ℕ) where
  -- past a byte that is no LF
  keeps_more : i < length s → (get_or s i 0 ≡ 10 → ⊥)
      → kept_all h (before_lf (drop i s)) ≡ kept_all (kept h (get_or s i 0)) (before_lf (drop (i + 1) s))
  unfolding kept_all before_lf
  keeps_more l g = rw (add-one i, drop-cons s i 0 l) (simp (ne_eqb (get_or s i 0) 10 g))

  has_more : i < length s → (get_or s i 0 ≡ 10 → ⊥) → has_lf (drop i s) ≡ has_lf (drop (i + 1) s)
  unfolding has_lf
  has_more l g = rw (add-one i, drop-cons s i 0 l) (simp (ne_eqb (get_or s i 0) 10 g))

  up_more : i < length s → (get_or s i 0 ≡ 10 → ⊥) → up_to_lf (drop i s) ≡ suc (up_to_lf (drop (i + 1) s))
  unfolding up_to_lf before_lf has_lf
  up_more l g = rw (add-one i, drop-cons s i 0 l) (simp (ne_eqb (get_or s i 0) 10 g) (omega arith))

  -- at an LF
  keeps_here : i < length s → get_or s i 0 ≡ 10 → kept_all h (before_lf (drop i s)) ≡ h
  unfolding kept_all before_lf
  keeps_here l e = rw (drop-cons s i 0 l) (simp (eq-eqb (get_or s i 0) 10 e))

  has_here : i < length s → get_or s i 0 ≡ 10 → has_lf (drop i s) ≡ true
  unfolding has_lf
  has_here l e = rw (drop-cons s i 0 l) (simp (eq-eqb (get_or s i 0) 10 e))

  up_here : i < length s → get_or s i 0 ≡ 10 → up_to_lf (drop i s) ≡ 1
  unfolding up_to_lf before_lf has_lf
  up_here l e = rw (drop-cons s i 0 l) (simp (eq-eqb (get_or s i 0) 10 e))

  -- at the end
  keeps_end : length s ≤ i → kept_all h (before_lf (drop i s)) ≡ h
  unfolding kept_all before_lf
  keeps_end l = rw (drop_of_length-le s l)

  has_end : length s ≤ i → has_lf (drop i s) ≡ false
  unfolding has_lf
  has_end l = rw (drop_of_length-le s l)

  up_end : length s ≤ i → up_to_lf (drop i s) ≡ 0
  unfolding up_to_lf before_lf has_lf
  up_end l = rw (drop_of_length-le s l)

-- the first i bytes of the rest of a block were taken, and none of them is an LF
module _ (h : Kept) (rest : List ℕ) where
  pub record Taking (bytes : List ℕ) (n i : ℕ) : Type 0 where
    pub keeps : kept_all h (before_lf rest) ≡ kept_all (holds bytes n) (before_lf (drop i rest))
    pub has : has_lf rest ≡ has_lf (drop i rest)
    pub next : up_to_lf rest ≡ i + up_to_lf (drop i rest)

  module _ {bytes : List ℕ} {n i : ℕ} (d : Taking bytes n i) where
    pub take_more : {bytes' : List ℕ} {n' : ℕ} → i < length rest → (get_or rest i 0 ≡ 10 → ⊥)
        → n' ≡ (kept (holds bytes n) (get_or rest i 0)).count → bytes' ≡ (kept (holds bytes n) (get_or rest i 0)).bytes
        → Taking bytes' n' (i + 1)
    take_more l g count more =
        record {
          keeps =
              d.keeps ∙ keeps_more (holds bytes n) rest i l g
              ∙ (λ j. kept_all (record { bytes = sym more j; count = sym count j }) (before_lf (drop (i + 1) rest)));
          has = d.has ∙ has_more (holds bytes n) rest i l g;
          next = omega (arith, d.next, up_more (holds bytes n) rest i l g);
        }

    pub take_here : (from : ℕ) → i < length rest → get_or rest i 0 ≡ 10
        → Takes h rest from (record { held = n; next = from + i + 1; whole = true }) bytes
    take_here from l e =
        record {
          keeps = sym (d.keeps ∙ keeps_here (holds bytes n) rest i l e);
          next = omega (arith, d.next, up_here (holds bytes n) rest i l e);
          whole = sym (d.has ∙ has_here (holds bytes n) rest i l e);
        }

    pub take_end : (from : ℕ) → i ≡ length rest → Takes h rest from (record { held = n; next = from + length rest; whole = false }) bytes
    take_end from l =
        record {
          keeps = sym (d.keeps ∙ keeps_end (holds bytes n) rest i (omega arith));
          next = omega (arith, d.next, up_end (holds bytes n) rest i (omega arith));
          whole = sym (d.has ∙ has_end (holds bytes n) rest i (omega arith));
        }
