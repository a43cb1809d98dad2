-- Signed numbers as differences of natural ones. `sub_ℕ a b` is a - b; two differences are equal where the sums across are,
-- which turns an equation of signed numbers into one that omega reads.
use mathlib.Core.Path.{◌≡◌, sym, ap, ◌∙◌}
use mathlib.Core.Bool.{true, false}
use Prim.Native.Nat.{ℕ, zero, suc, ◌+◌, ◌-◌, ◌*◌, ◌<◌, ◌≤◌, ◌^◌}
use native.Mathlib.Omega.{arith}
use native.Mathlib.Decide.{dec_lt}
use lib.Dec.{ltb, leb→le, le→leb}
use lib.IntN.{ℤ, pos, negsuc, sub_ℕ, nat_abs, neg_ℤ, ◌+ℤ◌, ◌-ℤ◌, ◌*ℤ◌, pos-ne-negsuc, +ℤ_idr, +ℤ-neg_ℤ_cancel}
use lib.Signed.{mag, lt_z, ◌≤ℤ◌}
use mir.Syntax.{Width}
use mir.Val.{SFits, hbits}
use borrow.Author.Tests.{lt-ltb, le-ltb}
use Rattle.signed.proofs.Tests.{test_ge}

-- a - b, where b is at most a, and where it is more
pub sub_ge : (a b : ℕ) → b ≤ a → sub_ℕ a b ≡ pos (a - b)
sub_ge a b h = rw (le-ltb a b h)

pub sub_lt : (a b : ℕ) → a < b → sub_ℕ a b ≡ negsuc (b - suc a)
sub_lt a b h = rw (lt-ltb a b h)

pub minus : (a b : ℕ) → pos a -ℤ pos b ≡ sub_ℕ a b
minus a zero = ap pos (omega arith) ∙ sym (sub_ge a 0 (omega arith))
minus a (suc b) = λ i. sub_ℕ a (suc b)

pub across : (a b a' b' : ℕ) → a + b' ≡ a' + b → sub_ℕ a b ≡ sub_ℕ a' b'
across a b a' b' e = go (dec_lt a b)
  where
    go : Dec (a < b) → sub_ℕ a b ≡ sub_ℕ a' b'
    go (yes h) = sub_lt a b h ∙ ap negsuc (omega arith) ∙ sym (sub_lt a' b' (omega arith))
    go (no h) = sub_ge a b (omega arith) ∙ ap pos (omega arith) ∙ sym (sub_ge a' b' (omega arith))

-- a number added to a difference, and a difference times a number
pub neg_plus : (x n : ℕ) → neg_ℤ (pos x) +ℤ pos n ≡ sub_ℕ n x
neg_plus zero n = ap pos (omega arith) ∙ sym (sub_ge n 0 (omega arith))
neg_plus (suc x) n = λ i. sub_ℕ n (suc x)

pub plus : (a b n : ℕ) → sub_ℕ a b +ℤ pos n ≡ sub_ℕ (a + n) b
plus a b n = go (dec_lt a b)
  where
    go : Dec (a < b) → sub_ℕ a b +ℤ pos n ≡ sub_ℕ (a + n) b
    go (yes h) = ap (λ z. z +ℤ pos n) (sub_lt a b h) ∙ across n (suc (b - suc a)) (a + n) b (omega arith)
    go (no h) = ap (λ z. z +ℤ pos n) (sub_ge a b (omega arith)) ∙ ap pos (omega arith) ∙ sym (sub_ge (a + n) b (omega arith))

pub times_plus : (a b k n : ℕ) → sub_ℕ a b *ℤ pos k +ℤ pos n ≡ sub_ℕ (a * k + n) (b * k)
times_plus a b k n = go (dec_lt a b)
  where
    go : Dec (a < b) → sub_ℕ a b *ℤ pos k +ℤ pos n ≡ sub_ℕ (a * k + n) (b * k)
    go (yes h) =
        let e : suc a + (b - suc a) ≡ b = omega arith in
        ap (λ z. z *ℤ pos k +ℤ pos n) (sub_lt a b h) ∙ neg_plus (suc (b - suc a) * k) n
        ∙ across n (suc (b - suc a) * k) (a * k + n) (b * k) (omega (arith, ap (λ x. x * k) e))
    go (no h) =
        let e : b + (a - b) ≡ a = omega arith in
        let m = ap (λ x. x * k) e in
        ap (λ z. z *ℤ pos k +ℤ pos n) (sub_ge a b (omega arith)) ∙ ap pos (omega (arith, m)) ∙ sym (sub_ge (a * k + n) (b * k) (omega (arith, m)))

-- bounds of a difference
pub low : (j a b : ℕ) → b ≤ a + suc j → negsuc j ≤ℤ sub_ℕ a b
low j a b h = go (dec_lt a b)
  where
    go : Dec (a < b) → negsuc j ≤ℤ sub_ℕ a b
    go (yes p) = rw (sub_lt a b p) (record { le = le→leb (b - suc a) j (omega arith) })
    go (no p) = rw (sub_ge a b (omega arith)) (record { le = tt })

pub high : (h a b : ℕ) → a ≤ b + h → sub_ℕ a b ≤ℤ pos h
high h a b l = go (dec_lt a b)
  where
    go : Dec (a < b) → sub_ℕ a b ≤ℤ pos h
    go (yes p) = rw (sub_lt a b p) (record { le = tt })
    go (no p) = rw (sub_ge a b (omega arith)) (record { le = le→leb (a - b) h (omega arith) })

pub least : (j a b : ℕ) → negsuc j ≤ℤ sub_ℕ a b → b ≤ a + suc j
least j a b h = go (dec_lt a b)
  where
    go : Dec (a < b) → b ≤ a + suc j
    go (yes p) = let m = leb→le (b - suc a) j (rw (sub_lt a b p) at h).le in omega arith
    go (no p) = omega arith

pub most : (h a b : ℕ) → sub_ℕ a b ≤ℤ pos h → a ≤ b + h
most h a b l = go (dec_lt a b)
  where
    go : Dec (a < b) → a ≤ b + h
    go (yes p) = omega arith
    go (no p) = let m = leb→le (a - b) h (rw (sub_ge a b (omega arith)) at l).le in omega arith

pub fits : (w : Width) (a b : ℕ) → a < 2 ^ hbits w + b → b ≤ 2 ^ hbits w + a → SFits w (sub_ℕ a b)
fits w a b p q = go (dec_lt a b)
  where
    go : Dec (a < b) → SFits w (sub_ℕ a b)
    go (yes h) = rw (sub_lt a b h) (record { sfits = omega arith })
    go (no h) = rw (sub_ge a b (omega arith)) (record { sfits = omega arith })

pub same : (b a a' : ℕ) → sub_ℕ a b ≡ sub_ℕ a' b → a ≡ a'
same b a a' e = go (dec_lt a b) (dec_lt a' b)
  where
    go : Dec (a < b) → Dec (a' < b) → a ≡ a'
    go (yes p) (yes q) = let m : b - suc a ≡ b - suc a' = ap mag (sym (sub_lt a b p) ∙ e ∙ sub_lt a' b q) in omega arith
    go (yes p) (no q) = absurd (pos-ne-negsuc (a' - b) (b - suc a) (sym (sub_ge a' b (omega arith)) ∙ sym e ∙ sub_lt a b p))
    go (no p) (yes q) = absurd (pos-ne-negsuc (a - b) (b - suc a') (sym (sub_ge a b (omega arith)) ∙ e ∙ sub_lt a' b q))
    go (no p) (no q) = let m : a - b ≡ a' - b = ap mag (sym (sub_ge a b (omega arith)) ∙ e ∙ sub_ge a' b (omega arith)) in omega arith

-- differences from one number lie as what they are taken from
less : (b x y : ℕ) → x < y → lt_z (sub_ℕ x b) (sub_ℕ y b) ≡ true
less b x y h = go (dec_lt x b) (dec_lt y b)
  where
    go : Dec (x < b) → Dec (y < b) → lt_z (sub_ℕ x b) (sub_ℕ y b) ≡ true
    go (yes p) (yes q) = rw (sub_lt x b p, sub_lt y b q) (lt-ltb (b - suc y) (b - suc x) (omega arith))
    go (yes p) (no q) = rw (sub_lt x b p, sub_ge y b (omega arith))
    go (no p) (yes q) = absurd (omega arith)
    go (no p) (no q) = rw (sub_ge x b (omega arith), sub_ge y b (omega arith)) (lt-ltb (x - b) (y - b) (omega arith))

not_less : (b x y : ℕ) → y ≤ x → lt_z (sub_ℕ x b) (sub_ℕ y b) ≡ false
not_less b x y h = go (dec_lt x b) (dec_lt y b)
  where
    go : Dec (x < b) → Dec (y < b) → lt_z (sub_ℕ x b) (sub_ℕ y b) ≡ false
    go (yes p) (yes q) = rw (sub_lt x b p, sub_lt y b q) (le-ltb (b - suc y) (b - suc x) (omega arith))
    go (yes p) (no q) = absurd (omega arith)
    go (no p) (yes q) = rw (sub_ge x b (omega arith), sub_lt y b q)
    go (no p) (no q) = rw (sub_ge x b (omega arith), sub_ge y b (omega arith)) (le-ltb (x - b) (y - b) (omega arith))

pub order : (b x y : ℕ) → lt_z (sub_ℕ x b) (sub_ℕ y b) ≡ ltb x y
order b x y = go (dec_lt x y)
  where
    go : Dec (x < y) → lt_z (sub_ℕ x b) (sub_ℕ y b) ≡ ltb x y
    go (yes h) = less b x y h ∙ sym (lt-ltb x y h)
    go (no h) = not_less b x y (omega arith) ∙ sym (le-ltb x y (omega arith))

-- z + k as a natural number, where z is above -k - 1
abbrev pub raised : ℕ → ℤ → ℕ
raised k z = nat_abs (z +ℤ pos k)

pub raise : (k : ℕ) (z : ℤ) {j : ℕ} → negsuc j ≤ℤ z → j < k → z +ℤ pos k ≡ pos (raised k z)
raise k (pos n) l h = λ i. pos (n + k)
raise k (negsuc n) {j} l h =
    let m = leb→le n j l.le in
    let e = sub_ge k (suc n) (omega arith) in
    e ∙ sym (ap (λ z. pos (nat_abs z)) e)

pub lower : (k : ℕ) (z : ℤ) {j : ℕ} → negsuc j ≤ℤ z → j < k → sub_ℕ (raised k z) k ≡ z
lower k (pos n) l h = sub_ge (n + k) k (omega arith) ∙ ap pos (omega arith)
lower k (negsuc n) {j} l h =
    let m = leb→le n j l.le in
    ap (λ z. sub_ℕ (nat_abs z) k) (sub_ge k (suc n) (omega arith)) ∙ sub_lt (k - suc n) k (omega arith) ∙ ap negsuc (omega arith)

pub raised_low : (k : ℕ) (z : ℤ) {j : ℕ} → negsuc j ≤ℤ z → j < k → k ≤ raised k z + suc j
raised_low k (pos n) l h = omega arith
raised_low k (negsuc n) {j} l h =
    let m = leb→le n j l.le in omega (arith, ap nat_abs (sub_ge k (suc n) (omega arith)))

pub raised_high : (k : ℕ) (z : ℤ) {j h : ℕ} → negsuc j ≤ℤ z → j < k → z ≤ℤ pos h → raised k z ≤ k + h
raised_high k (pos n) {h = h} l p u = let m = leb→le n h u.le in omega arith
raised_high k (negsuc n) {j} l p u =
    let m = leb→le n j l.le in omega (arith, ap nat_abs (sub_ge k (suc n) (omega arith)))

-- a difference raised by what was taken off
pub raised_back : (k a : ℕ) → raised k (sub_ℕ a k) ≡ a
raised_back k a = ap nat_abs (plus a k k ∙ across (a + k) k a 0 (omega arith) ∙ sub_ge a 0 (omega arith)) ∙ omega arith

-- ---- every signed number is a difference

pub record Difference (z : ℤ) : Type 0 where
  pub more : ℕ
  pub less : ℕ
  pub is : z ≡ sub_ℕ more less

pub difference : (z : ℤ) → Difference z
difference (pos n) = record { more = n; less = 0; is = sym (sub_ge n 0 (omega arith) ∙ ap pos (omega arith)) }
difference (negsuc n) = record { more = 0; less = suc n; is = sym (sub_lt 0 (suc n) (omega arith) ∙ ap negsuc (omega arith)) }

-- a difference times a number, less another, its size, and the order of two
pub times : (a b k : ℕ) → sub_ℕ a b *ℤ pos k ≡ sub_ℕ (a * k) (b * k)
times a b k = sym (+ℤ_idr (sub_ℕ a b *ℤ pos k)) ∙ times_plus a b k 0 ∙ across (a * k + 0) (b * k) (a * k) (b * k) (omega arith)

pub less_natural : (a b n : ℕ) → sub_ℕ a b -ℤ pos n ≡ sub_ℕ a (b + n)
less_natural a b n =
    ap (λ z. z -ℤ pos n) (across a b (a + n) (b + n) (omega arith) ∙ sym (plus a (b + n) n)) ∙ +ℤ-neg_ℤ_cancel (sub_ℕ a (b + n)) (pos n)

pub less_difference : (a b c d : ℕ) → sub_ℕ a b -ℤ sub_ℕ c d ≡ sub_ℕ (a + d) (b + c)
less_difference a b c d = go (dec_lt c d)
  where
    go : Dec (c < d) → sub_ℕ a b -ℤ sub_ℕ c d ≡ sub_ℕ (a + d) (b + c)
    go (yes h) = ap (λ z. sub_ℕ a b -ℤ z) (sub_lt c d h) ∙ plus a b (suc (d - suc c)) ∙ across (a + suc (d - suc c)) b (a + d) (b + c) (omega arith)
    go (no h) = ap (λ z. sub_ℕ a b -ℤ z) (sub_ge c d (omega arith)) ∙ less_natural a b (c - d) ∙ across a (b + (c - d)) (a + d) (b + c) (omega arith)

abbrev pub gap : ℕ → ℕ → ℕ
gap a b = (a - b) + (b - a)

pub size : (a b : ℕ) → nat_abs (sub_ℕ a b) ≡ gap a b
size a b = go (dec_lt a b)
  where
    go : Dec (a < b) → nat_abs (sub_ℕ a b) ≡ gap a b
    go (yes h) = ap nat_abs (sub_lt a b h) ∙ omega arith
    go (no h) = ap nat_abs (sub_ge a b (omega arith)) ∙ omega arith

pub at_most : (a b c d : ℕ) → a + d ≤ c + b → sub_ℕ a b ≤ℤ sub_ℕ c d
at_most a b c d h =
    rw (across a b (a + d) (b + d) (omega arith), across c d (c + b) (b + d) (omega arith))
    (test_ge (order (b + d) (c + b) (a + d) ∙ le-ltb (c + b) (a + d) h))
