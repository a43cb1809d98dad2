-- What floor division means: z is the quotient times d and the rest, the rest is below d, and no other pair is like that.
use mathlib.Core.Path.{◌≡◌, sym, ap, ◌∙◌}
use Prim.Native.Nat.{ℕ, suc, ◌+◌, ◌-◌, ◌*◌, ◌/◌, ◌%◌, ◌<◌}
use native.Mathlib.Omega.{arith}
use native.Mathlib.Nat.{add-mul, mod-lt, div-add-mod', div-eq_of_lt-le, div-lt_iff_lt-mul, mod-eq-sub-div-mul, mul-add-mod_self_right, mul_assoc, mul-pos}
use lib.IntN.{ℤ, pos, negsuc, sub_ℕ, ◌+ℤ◌, ◌*ℤ◌}
use Rattle.signed.specs.Floor.{quotient, rest}
use Rattle.signed.proofs.Differences.{sub_lt, neg_plus, plus, times_plus}

pub floor_law : (z : ℤ) (d : ℕ) → 0 < d → (quotient z d *ℤ pos d +ℤ pos (rest z d) ≡ z) × (rest z d < d)
floor_law (pos a) d h = (ap pos (omega (arith, div-add-mod' a d)), mod-lt a h)
floor_law (negsuc a) d h =
    let m = mod-lt a h in
    let e = div-add-mod' a d in
    (neg_plus (suc (a / d) * d) (d - suc (a % d)) ∙ sub_lt (d - suc (a % d)) (suc (a / d) * d) (omega arith) ∙ ap negsuc (omega arith), omega arith)

-- of natural numbers: q times d and a rest below d
div_is : (q d r : ℕ) → r < d → (q * d + r) / d ≡ q
div_is q d r h = div-eq_of_lt-le d (omega arith) (omega arith)

mod_is : (q d r : ℕ) → r < d → (q * d + r) % d ≡ r
mod_is q d r h = omega (arith, mod-eq-sub-div-mul (q * d + r) d, ap (λ n. n * d) (div_is q d r h))

pub floor_back : (q : ℤ) (d r : ℕ) → r < d → (quotient (q *ℤ pos d +ℤ pos r) d ≡ q) × (rest (q *ℤ pos d +ℤ pos r) d ≡ r)
floor_back (pos a) d r h = (ap pos (div_is a d r h), mod_is a d r h)
floor_back (negsuc a) d r h =
    let n : suc a * d - suc r ≡ a * d + (d - suc r) = omega arith in
    let z = neg_plus (suc a * d) r ∙ sub_lt r (suc a * d) (omega arith) ∙ ap negsuc n in
    let l : d - suc r < d = omega arith in (
      ap (λ y. quotient y d) z ∙ ap negsuc (div_is a d (d - suc r) l),
      ap (λ y. rest y d) z ∙ ap (λ k. d - suc k) (mod_is a d (d - suc r) l) ∙ omega arith,
    )

-- k times d more is a quotient that is k more, and the same rest
more : (q : ℤ) (k d r : ℕ) → q *ℤ pos d +ℤ pos r +ℤ pos (k * d) ≡ (q +ℤ pos k) *ℤ pos d +ℤ pos r
more (pos a) k d r = ap pos (omega (arith, add-mul a k d))
more (negsuc a) k d r =
    ap (λ z. z +ℤ pos (k * d)) (neg_plus (suc a * d) r) ∙ plus r (suc a * d) (k * d)
    ∙ ap (λ n. sub_ℕ n (suc a * d)) (omega arith) ∙ sym (times_plus k (suc a) d r)

pub shifted : (z : ℤ) (k d : ℕ) → 0 < d → (quotient (z +ℤ pos (k * d)) d ≡ quotient z d +ℤ pos k) × (rest (z +ℤ pos (k * d)) d ≡ rest z d)
shifted z k d h =
    let f = floor_law z d h in
    let e = ap (λ y. y +ℤ pos (k * d)) (sym f.0) ∙ more (quotient z d) k d (rest z d) in
    let b = floor_back (quotient z d +ℤ pos k) d (rest z d) f.1 in
    (ap (λ y. quotient y d) e ∙ b.0, ap (λ y. rest y d) e ∙ b.1)

-- a rest by q times d leaves by d what the number does
mod_of_mod : (a q d : ℕ) → a % (q * d) % d ≡ a % d
mod_of_mod a q d =
    sym (mul-add-mod_self_right (a / (q * d) * q) d (a % (q * d)))
    ∙ ap (λ n. n % d) (omega (arith, mul_assoc (a / (q * d)) q d, div-add-mod' a (q * d)))

pub rest_of_rest : (z : ℤ) (q d : ℕ) → 0 < q → 0 < d → rest z (q * d) % d ≡ rest z d
rest_of_rest (pos a) q d p h = mod_of_mod a q d
rest_of_rest (negsuc a) q d p h =
    let m = a % (q * d) in
    let k = m / d in
    let l : k < q = (div-lt_iff_lt-mul h).1 (mod-lt a (mul-pos p h)) in
    let j = q - suc k in
    let e : q ≡ suc k + j = omega arith in
    let n : q * d - suc m ≡ j * d + (d - suc (m % d)) = omega (arith, ap (λ x. x * d) e, div-add-mod' m d, mod-lt m h) in
    ap (λ x. x % d) n ∙ mod_is j d (d - suc (m % d)) (omega arith) ∙ ap (λ x. d - suc x) (mod_of_mod a q d)
