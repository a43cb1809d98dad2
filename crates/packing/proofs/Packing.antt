-- What a description's limits say of the numbers that are written: each fits its field, and all together fit the word.
use mathlib.Core.Path.{◌≡◌, refl, sym, ap, ◌∙◌, subst}
use mathlib.Core.Bool.{Bool, true, false, cond}
use Prim.Native.Nat.{ℕ, ◌+◌, ◌-◌, ◌*◌, ◌/◌, ◌%◌, ◌^◌, ◌≤◌, ◌<◌}
use native.Mathlib.Nat.{mul-le-mul, mul-le-mul_right, lt_of_le_of_lt, le_of_lt, le_trans, le-div_iff_mul-le, div-mul-le_self, pow-le-pow_right}
use native.Mathlib.Omega.{arith}
use lib.IntN.{ℤ, pos, negsuc, nat_abs}
use lib.Dec.{leb}
use lib.Signed.{mag}
use mir.Syntax.{w64}
use mir.Val.{of_z}
use Rattle.std.proofs.lemmas.Nat.{shl_whole}
use borrow.Author.Tests.{lt-leb, leb-true}
use Rattle.refusal.specs.Answers.{Answer, gives, refused}
use Rattle.signed.proofs.Tests.{and_false, and_left, and_right}
use Rattle.day_time.specs.Promises.{Ranged}
use Rattle.day_time.specs.declared.times.Civil.{Civil}
use Rattle.byte_orders.specs.Orders.{ordered}
use Rattle.byte_orders.specs.declared.Order.TheVariants.{Straight}
use Rattle.byte_orders.proofs.Promises.{stays_below}
use Rattle.layouts.specs.Layouts.{base}
use Rattle.layouts.specs.declared.layouts.Field.{Field}
use Rattle.layouts.specs.declared.layouts.Layout.{Layout}
use Rattle.layouts.specs.declared.layouts.Digits.{Digits}
use Rattle.layouts.specs.declared.layouts.Digits.TheVariants.{Bits, Pairs, SwappedPairs, SemiOctets}
use Rattle.packing.specs.Writing.{steps, numeral, placed, packed, writes, write_fields}
use Rattle.packing.specs.Parts.{Fitting, largest, TwoDigits, Holds, top, Writable, Ready, Packs, Packing, in_years, write_bits, reordered, write_by}

pub div_mono : {a b k : ℕ} → 0 < k → a ≤ b → a / k ≤ b / k
div_mono {a} {b} {k} p h = (le-div_iff_mul-le p).1 (le_trans (div-mul-le_self a k) h)

-- fewer steps store no larger number than the largest
numeral_most : (d : Digits) (f : Field) (v k : ℕ) → steps f v ≤ k → TwoDigits d k → numeral d f v ≤ largest d k
unfolding numeral
numeral_most Bits f v k h t = h
numeral_most Pairs f v k h t = h
numeral_most SwappedPairs f v k h t = omega arith
numeral_most SemiOctets f v k h t = omega arith

fitting_le : (d : Digits) (f : Field) {n m : ℕ} → n ≤ m → Fitting d f m → Fitting d f n
fitting_le Bits f h k = (k.0, k.1, lt_of_le_of_lt h k.2)
fitting_le Pairs f h k = (k.0, lt_of_le_of_lt h k.1)
fitting_le SwappedPairs f h k = (k.0, lt_of_le_of_lt h k.1)
fitting_le SemiOctets f h k = (k.0, k.1, lt_of_le_of_lt h k.2)

-- a value that a field holds: what writing it asks, and how much it adds to the word
module _ (d : Digits) (f : Field) (low high v : ℕ) (k : Holds d f low high) (lo : low ≤ v) (hi : v ≤ high) where
  most : numeral d f v ≤ largest d ((high - f.offset) / f.step)
  most = numeral_most d f v ((high - f.offset) / f.step) (div_mono k.step (omega arith)) k.two

  pub ready : Ready d f v
  ready = record {
    offset = omega (arith, k.offset);
    step = k.step;
    fits = fitting_le d f most k.fits;
  }

  pub placed_most : placed d f v ≤ top d f high
  placed_most = mul-le-mul_right (base d ^ f.place) most

-- ---- a year and civil fields

module _ {d : Digits} {l : Layout} {y : ℕ} {c : Civil} (p : Packing d l y c) where
  -- the limits, for digits of the layout's own kind
  limits : Packing l.digits l y c
  limits = record { digits = refl; writable = p.writable; ranged = p.ranged; first = p.first; last = p.last }

module _ (l : Layout) (y : ℕ) (c : Civil) (p : Packing l.digits l y c) where
  pub packed_words : packed l y c < l.words
  unfolding packed
  packed_words =
      omega (
        arith,
        p.writable.sum,
        placed_most l.digits l.year l.year.offset l.last y p.writable.year p.first p.last,
        placed_most l.digits l.month 1 12 c.month p.writable.month p.ranged.month_low p.ranged.month_high,
        placed_most l.digits l.day 1 31 c.day p.writable.day p.ranged.day_low p.ranged.day_high,
        placed_most l.digits l.hour 0 23 c.hour p.writable.hour (omega arith) p.ranged.hour,
        placed_most l.digits l.minute 0 59 c.minute p.writable.minute (omega arith) p.ranged.minute,
        placed_most l.digits l.second 0 59 c.second p.writable.second (omega arith) p.ranged.second,
      )

  pub packed_small : packed l y c < 2 ^ 63
  packed_small = omega (arith, packed_words, p.writable.words)

  -- what writing them asks, for digits of the layout's own kind, and for the kind that they are
  own : Packs l.digits l y c
  unfolding packed
  own = record {
    digits = refl;
    year = ready l.digits l.year l.year.offset l.last y p.writable.year p.first p.last;
    month = ready l.digits l.month 1 12 c.month p.writable.month p.ranged.month_low p.ranged.month_high;
    day = ready l.digits l.day 1 31 c.day p.writable.day p.ranged.day_low p.ranged.day_high;
    hour = ready l.digits l.hour 0 23 c.hour p.writable.hour (omega arith) p.ranged.hour;
    minute = ready l.digits l.minute 0 59 c.minute p.writable.minute (omega arith) p.ranged.minute;
    second = ready l.digits l.second 0 59 c.second p.writable.second (omega arith) p.ranged.second;
    small = packed_small;
  }

pub packs : {d : Digits} {l : Layout} {y : ℕ} {c : Civil} → Packing d l y c → Packs d l y c
packs {d} {l} {y} {c} p = subst (λ e. Packs e l y c) p.digits (own l y c (limits p))

-- ---- the test of the year, on its 64 bits

pub years_agree : (l : Layout) (y : ℤ) → mag y < 10000 → l.last ≤ 9999 → in_years l (of_z w64 y) ≡ writes l y
years_agree l (pos n) m k = refl
years_agree l (negsuc n) m k = rw (lt-leb (of_z w64 (negsuc n)) l.last (omega arith)) (and_false (leb l.year.offset (of_z w64 (negsuc n))))

size : (y : ℤ) (l : ℕ) → mag y < 10000 → l ≤ 9999 → of_z w64 y ≤ l → nat_abs y ≡ of_z w64 y
size (pos n) l m k h = refl
size (negsuc n) l m k h = absurd (omega arith)

module _ (l : Layout) (c : Civil) (w : Writable l) (r : Ranged c) (y : ℕ) (is : y ≡ of_z w64 c.year) where
  agree : in_years l y ≡ writes l c.year
  agree = ap (in_years l) is ∙ years_agree l c.year r.year w.last

  -- a year that is not written, and one that is
  pub unwritten : in_years l y ≡ false → refused 7 ≡ write_bits l c
  unfolding write_bits
  unwritten h = rw (sym agree ∙ h)

  module _ (h : in_years l y ≡ true) where
    first : l.year.offset ≤ y
    first = leb-true l.year.offset y (and_left (leb l.year.offset y) (leb y l.last) h)

    last : y ≤ l.last
    last = leb-true y l.last (and_right (leb l.year.offset y) (leb y l.last) h)

    pub packing : {d : Digits} → l.digits ≡ d → Packing d l y c
    packing e = record { digits = e; writable = w; ranged = r; first = first; last = last }

    pub written : (n : ℕ) → n ≡ packed l y c → gives n ≡ write_bits l c
    unfolding write_bits
    written n e =
        let a : nat_abs c.year ≡ y = size c.year l.last r.year w.last (rw is at last) ∙ sym is in
        rw (sym agree ∙ h, a) (ap gives e)

-- ---- bits in an order that changes nothing

pub as_they_are : (x : Answer ℕ) → reordered (ordered Straight) x ≡ x
unfolding ordered
as_they_are (gives p) = refl
as_they_are (refused n) = refl

-- ---- the word of the bits

-- bits as a word
abbrev pub as_word : Answer ℕ → Answer ℤ
as_word (gives p) = gives (pos p)
as_word (refused n) = refused n

-- bits, where there are some, are below 2^63
abbrev Below63 : Answer ℕ → Type 0
Below63 (gives p) = p < 2 ^ 63
Below63 (refused n) = 0 ≤ n

word_by : (b : Bool) (p : ℕ) (f : ℕ → ℕ) → as_word (reordered f (cond b (gives p) (refused 7))) ≡ cond b (gives (pos (f p))) (refused 7)
word_by true p f = refl
word_by false p f = refl

in_word_by : (b : Bool) (p : ℕ) (f : ℕ → ℕ) → (b ≡ true → f p < 2 ^ 63) → Below63 (reordered f (cond b (gives p) (refused 7)))
in_word_by true p f h = h refl
in_word_by false p f h = omega arith

module _ (l : Layout) (c : Civil) where
  pub its_word : as_word (write_by l c) ≡ write_fields l (gives c)
  unfolding write_bits
  its_word = word_by (writes l c.year) (packed l (nat_abs c.year) c) (ordered l.order)

  pub in_word : Writable l → Ranged c → {p : ℕ} → gives p ≡ write_by l c → p < 2 ^ 63
  unfolding write_bits
  in_word w r e = subst Below63 (sym e) (in_word_by (writes l c.year) (packed l (nat_abs c.year) c) (ordered l.order) (λ e.
      let h : in_years l (of_z w64 c.year) ≡ true = years_agree l c.year r.year w.last ∙ e in
      let p = packing l c w r (of_z w64 c.year) refl h refl in
      let a = size c.year l.last r.year w.last p.last in
      stays_below l.order _ (rw a (packed_small l (of_z w64 c.year) c p))))

-- ---- numbers at their places

-- no bit is shifted out
pub up : {a : ℕ} (j k : ℕ) → a < 2 ^ j → k + j ≤ 64 → a * 2 ^ k % 2 ^ 64 ≡ a * 2 ^ k
up {a} j k h f = shl_whole a j k 64 h (omega arith)

pub hundred_small : (n k : ℕ) → n < 100 → k < 6 → n * 100 ^ k < 2 ^ 64
hundred_small n k h l =
    let p : 100 ^ k ≤ 100 ^ 5 = pow-le-pow_right (omega arith) {j = 5} (omega arith) in
    omega (arith, mul-le-mul (le_of_lt h) p)
