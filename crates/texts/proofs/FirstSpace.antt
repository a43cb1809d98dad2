-- The first space stands behind what stands before it. Assumes nothing.
use Rattle.std.proofs.Common.{◌≡◌, ◌≢◌, ℕ, suc, ◌+◌, Bool, true, false, cond, eqb, List, [], ◌∷◌, length, take, drop, refl, ap, ◌∙◌, add-one, arith, eq-eqb, ne_eqb}
use Rattle.texts.specs.Spaces.{before_space, after_space}

pub before_none : length (before_space []) ≡ 0
unfolding before_space
before_none = refl

pub before_hit : (b : ℕ) (bs : List ℕ) → b ≡ 32 → length (before_space (b ∷ bs)) ≡ 0
unfolding before_space
before_hit b bs e = simp (eq-eqb b 32 e)

pub before_miss : (b : ℕ) (bs : List ℕ) → b ≢ 32 → length (before_space (b ∷ bs)) ≡ length (before_space bs) + 1
unfolding before_space
before_miss b bs e = simp (ne_eqb b 32 e) (omega arith)

pub before_first : (s : List ℕ) → before_space s ≡ take (length (before_space s)) s
unfolding before_space
before_first [] = refl
before_first (b ∷ bs) = by_test (eqb b 32) (before_first bs)
  where
    by_test : (t : Bool) → before_space bs ≡ take (length (before_space bs)) bs
        → cond t [] (b ∷ before_space bs) ≡ take (length (cond t [] (b ∷ before_space bs))) (b ∷ bs)
    by_test true e = refl
    by_test false e = ap (λ l. b ∷ l) e

pub after_first : (s : List ℕ) → after_space s ≡ drop (length (before_space s) + 1) s
unfolding before_space after_space
after_first [] = refl
after_first (b ∷ bs) = by_test (eqb b 32) (after_first bs)
  where
    by_test : (t : Bool) → after_space bs ≡ drop (length (before_space bs) + 1) bs
        → cond t bs (after_space bs) ≡ drop (length (cond t [] (b ∷ before_space bs)) + 1) (b ∷ bs)
    by_test true e = refl
    by_test false e = rw (add-one (suc (length (before_space bs)))) (e ∙ ap (λ n. drop n bs) (add-one (length (before_space bs))))
