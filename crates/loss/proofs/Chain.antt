-- Numbers that stand one above the other in a word, in any base: each can be read again, and what was read makes the word
-- again.
use mathlib.Core.Path.{◌≡◌, sym, ◌∙◌, ap, subst}
use mathlib.Core.List.{List, [], ◌∷◌}
use Prim.Native.Nat.{ℕ, ◌+◌, ◌*◌, ◌/◌, ◌%◌, ◌^◌, ◌<◌}
use native.Mathlib.Nat.{mul_assoc, mul_comm, add_comm, add_assoc, add-zero, zero-mul, one-le-pow, add-mul}
use native.Mathlib.Omega.{arith}
use lib.Pow.{pow-add}
use lib.Arith.{digits_div, digits_mod, digits_lt, mod-mul}

-- a number, its place and the width that it may take
pub record Slot : Type 0 where
  pub place : ℕ
  pub width : ℕ
  pub number : ℕ

abbrev pub sum_of : ℕ → List Slot → ℕ
sum_of b [] = 0
sum_of b (s ∷ r) = s.number * b ^ s.place + sum_of b r

-- ---- from numbers to the word and back

-- each slot starts where the one before ends, and holds its number
abbrev pub Chain : ℕ → ℕ → List Slot → Type 0
Chain b place [] = Unit {0}
Chain b place (s ∷ r) = (s.place ≡ place) × (s.number < b ^ s.width) × Chain b (place + s.width) r

-- each number is what stands at its place
abbrev pub Got : ℕ → ℕ → List Slot → Type 0
Got b p [] = Unit {0}
Got b p (s ∷ r) = (p / b ^ s.place % b ^ s.width ≡ s.number) × Got b p r

-- what stands from a place on is a multiple of that place
pub multiple : (b place : ℕ) (l : List Slot) → Chain b place l → (h : ℕ) × (sum_of b l ≡ h * b ^ place)
multiple b place [] k = (0, sym (zero-mul (b ^ place)))
multiple b place (s ∷ r) k =
    let q = multiple b (place + s.width) r k.2 in
    (s.number + q.0 * b ^ s.width, rw (k.0, q.1, pow-add b place s.width) (ring s.number q.0 (b ^ place) (b ^ s.width)))
  where
    ring : (n h x y : ℕ) → n * x + h * (x * y) ≡ (n + h * y) * x
    ring n h x y = rw (mul_comm x y, ← mul_assoc h y x, ← add-mul n (h * y) x)

head_got : (b place w lo n h : ℕ) → lo < b ^ place → n < b ^ w → (lo + (n * b ^ place + h * b ^ (place + w))) / b ^ place % b ^ w ≡ n
head_got b place w lo n h hl hn =
    rw (pow-add b place w, regroup lo n h (b ^ place) (b ^ w), digits_div (h * b ^ w + n) hl) (digits_mod h hn)
  where
    regroup : (lo n h x y : ℕ) → lo + (n * x + h * (x * y)) ≡ (h * y + n) * x + lo
    regroup lo n h x y = rw (mul_comm x y, ← mul_assoc h y x, add-mul (h * y) n x) (omega arith)

below : (b place w lo n : ℕ) → lo < b ^ place → n < b ^ w → lo + n * b ^ place < b ^ (place + w)
below b place w lo n hl hn = rw (pow-add b place w, mul_comm (b ^ place) (b ^ w), add_comm lo (n * b ^ place)) (digits_lt hn hl)

pub got : (b place lo : ℕ) → lo < b ^ place → (l : List Slot) → Chain b place l → Got b (lo + sum_of b l) l
got b place lo hl [] k = tt
got b place lo hl (s ∷ r) k =
    let q = multiple b (place + s.width) r k.2 in (
      rw (k.0, q.1) (head_got b place s.width lo s.number q.0 hl k.1),
      subst (λ p. Got b p r) (add_assoc lo (s.number * b ^ place) (sum_of b r) ∙ ap (λ x. lo + (s.number * b ^ x + sum_of b r)) (sym k.0))
          (got b (place + s.width) (lo + s.number * b ^ place) (below b place s.width lo s.number hl k.1) r k.2),
    )

-- ---- from the word to numbers and back

-- each slot starts where the one before ends, and holds what stands in p at its place
abbrev pub Read : ℕ → ℕ → ℕ → List Slot → Type 0
Read b p place [] = Unit {0}
Read b p place (s ∷ r) = (s.place ≡ place) × (s.number ≡ p / b ^ place % b ^ s.width) × Read b p (place + s.width) r

-- where the last slot ends
abbrev pub end_of : ℕ → List Slot → ℕ
end_of place [] = place
end_of place (s ∷ r) = end_of (place + s.width) r

pub rebuilt : (b p place : ℕ) → 0 < b → (l : List Slot) → Read b p place l → p % b ^ place + sum_of b l ≡ p % b ^ end_of place l
rebuilt b p place h [] k = add-zero (p % b ^ place)
rebuilt b p place h (s ∷ r) k = rw (k.0, k.1) (step (rebuilt b p (place + s.width) h r k.2))
  where
    cut : p % b ^ (place + s.width) ≡ p / b ^ place % b ^ s.width * b ^ place + p % b ^ place
    cut = rw (pow-add b place s.width, mul_comm (b ^ place) (b ^ s.width)) (mod-mul p (one-le-pow s.width b h) (one-le-pow place b h))

    step : p % b ^ (place + s.width) + sum_of b r ≡ p % b ^ end_of (place + s.width) r
        → p % b ^ place + (p / b ^ place % b ^ s.width * b ^ place + sum_of b r) ≡ p % b ^ end_of (place + s.width) r
    step e = omega (arith, e, cut)
