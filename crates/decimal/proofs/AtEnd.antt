-- A text at the end of 20 bytes: zeros stand in front of it, and each byte that is written takes the place of the last
-- of them. Assumes nothing.
use Rattle.std.proofs.Common.{◌≡◌, ℕ, ◌+◌, ◌-◌, ◌≤◌, List, ◌∷◌, ◌++◌, length, drop, set, replicate, sym, refl, ap, ◌∙◌, arith, length-append, length-set, drop_at}
use lib.ListN.{length-replicate, replicate-append-replicate}
use lib.Seq.{set_at, append_snoc}
use Rattle.decimal.specs.declared.write.Text.{Text}
use Rattle.decimal.specs.Write.{at_end}

-- a byte in front of a text that zeros stand in front of
last_zero : (k : ℕ) (t : List ℕ) → replicate (k + 1) 0 ++ t ≡ replicate k 0 ++ (0 ∷ t)
last_zero k t = rw (← replicate-append-replicate {A = ℕ} k 1 0) (append_snoc (replicate k 0) 0 t)

before : (m k v : ℕ) (t : List ℕ) → m ≡ k + 1 → set (replicate m 0 ++ t) k v ≡ replicate k 0 ++ (v ∷ t)
before m k v t n =
    rw (n, last_zero k t) (set_at (replicate k 0) 0 t v k (length-replicate {A = ℕ} k 0))

-- a byte written at k, where zeros stand up to it and at it
module _ (b : List ℕ) (k v : ℕ) (e : b ≡ replicate (k + 1) 0 ++ drop (k + 1) b) where
  pub set_zero : set b k v ≡ replicate k 0 ++ (v ∷ drop (k + 1) b)
  set_zero = ap (λ (l : List ℕ). set l k v) e ∙ before (k + 1) k v (drop (k + 1) b) refl

  pub drop_set : drop k (set b k v) ≡ v ∷ drop (k + 1) b
  drop_set = ap (λ (l : List ℕ). drop k l) set_zero ∙ drop_at (replicate k 0) (v ∷ drop (k + 1) b) k (length-replicate {A = ℕ} k 0)

  pub still_zeros : set b k v ≡ replicate k 0 ++ drop k (set b k v)
  still_zeros = set_zero ∙ ap (λ (t : List ℕ). replicate k 0 ++ t) (sym drop_set)

-- 20 bytes that are zeros and then a text
pub stands : {b : List ℕ} {k : ℕ} (t : List ℕ) → length b ≡ 20 → b ≡ replicate k 0 ++ t
    → ◌≡◌ {A = Text} (record { bytes = b; from = k }) (at_end t)
unfolding at_end
stands {b} {k} t l e =
    let n : k ≡ 20 - length t = omega (arith, length-append (replicate k 0) t, length-replicate {A = ℕ} k 0, ap length e) in
    λ i. record { bytes = (e ∙ ap (λ (j : ℕ). replicate j 0 ++ t) n) i; from = n i }

pub from_at : {x : Text} (t : List ℕ) → x ≡ at_end t → x.from ≡ 20 - length t
unfolding at_end
from_at t e = ap (λ (y : Text). y.from) e

module _ (t : List ℕ) (h : length t ≤ 20) where
  end_text : drop (at_end t).from (at_end t).bytes ≡ t
  unfolding at_end
  end_text = drop_at (replicate (20 - length t) 0) t (20 - length t) (length-replicate {A = ℕ} (20 - length t) 0)

  end_length : 20 ≡ length (at_end t).bytes
  unfolding at_end
  end_length = omega (arith, length-append (replicate (20 - length t) 0) t, length-replicate {A = ℕ} (20 - length t) 0)

  -- the text, as a caller lends it
  pub lent : {x : Text} → x ≡ at_end t
      → (x ≡ at_end t) × ((drop x.from x.bytes ≡ t) × ((x.from ≤ 20) × (20 ≡ length x.bytes)))
  lent e = rw e (refl, (end_text, (omega (arith, from_at {x = at_end t} t refl), end_length)))

-- a byte more in front of such a text
pub one_more : {x : Text} (v : ℕ) (t : List ℕ) → x ≡ at_end t → length t ≤ 19
    → ◌≡◌ {A = Text} (record { bytes = set x.bytes (x.from - 1) v; from = x.from - 1 }) (at_end (v ∷ t))
unfolding at_end
one_more v t e h =
    let k : ℕ = 20 - length t - 1 in
    let l = length-set (replicate (20 - length t) 0 ++ t) k v ∙ sym (end_length t (omega arith)) in
    rw e (stands (v ∷ t) l (before (20 - length t) k v t (omega arith)))
