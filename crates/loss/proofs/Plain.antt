-- Plain words come back, once over a description: what was read from such a word is packed to the word again.
use mathlib.Core.Path.{◌≡◌, refl, ◌∙◌, ap, subst}
use mathlib.Core.Bool.{true}
use mathlib.Core.List.{List, [], ◌∷◌}
use mathlib.Core.Logic.{◌⊎◌, ⊎_elim}
use Prim.Native.Nat.{ℕ, ◌+◌, ◌-◌, ◌*◌, ◌/◌, ◌%◌, ◌^◌, ◌≤◌, ◌<◌}
use native.Mathlib.Nat.{mul-div_left, mod-eq_of_lt, mod-lt, mul-one}
use native.Mathlib.Omega.{arith}
use lib.IntN.{ℤ, pos, negsuc}
use mir.Syntax.{w64}
use mir.Val.{SFits, of_z}
use borrow.Author.Tests.{le-leb, le-ltb}
use Rattle.refusal.specs.Answers.{gives}
use Rattle.instant.specs.declared.instants.Instant.{Instant}
use Rattle.day_time.specs.Times.{good, seconds_of}
use Rattle.day_time.specs.Promises.{Ranged}
use Rattle.day_time.specs.declared.times.Civil.{Civil}
use Rattle.day_time.proofs.Promises.{fields_of_their_seconds, field_ranges}
use Rattle.byte_orders.specs.Orders.{ordered}
use Rattle.layouts.specs.Layouts.{base}
use Rattle.unpacking.specs.Reading.{semi, stored, value_of, value_in, fields_in}
use Rattle.layouts.specs.declared.layouts.Field.{Field}
use Rattle.layouts.specs.declared.layouts.Layout.{Layout}
use Rattle.layouts.specs.declared.layouts.Digits.{Digits}
use Rattle.layouts.specs.declared.layouts.Digits.TheVariants.{Bits, Pairs, SwappedPairs, SemiOctets}
use Rattle.packing.specs.Writing.{numeral, packed}
use Rattle.registry.specs.Words.{fields_encode}
use Rattle.signed.proofs.Promises.{negative_bits}
use Rattle.loss.proofs.Chain.{Slot, Read, end_of, rebuilt}
use Rattle.byte_orders.proofs.Promises.{undoes_itself, stays_below}
use Rattle.loss.proofs.Regular.{Down, Up, Regular, reaches}
use Rattle.loss.proofs.Trip.{slot, base_pos}
use Rattle.loss.proofs.Latest.{Said}

-- ---- one number

-- digits that are digits
abbrev pub Decent : Digits → ℕ → Type 0
Decent Bits n = Unit {0}
Decent Pairs n = Unit {0}
Decent SwappedPairs n = n < 100
Decent SemiOctets n = (n % 16 ≤ 9) × (n / 16 ≤ 9)

drop_offset : (a k x : ℕ) → 0 < k → (a + x * k - a) / k ≡ x
drop_offset a k x h = let e : a + x * k - a ≡ x * k = omega arith in rw e (mul-div_left x h)

number_back : (d : Digits) (f : Field) (n : ℕ) → 0 < f.step → Decent d n → numeral d f (value_of d f n) ≡ n
unfolding value_of numeral
number_back Bits f n h k = drop_offset f.offset f.step n h
number_back Pairs f n h k = drop_offset f.offset f.step n h
number_back SwappedPairs f n h k = rw (drop_offset f.offset f.step (n % 10 * 10 + n / 10) h) (omega arith)
number_back SemiOctets f n h k =
    rw (le-ltb 127 (semi n) (omega (arith, k.0, k.1)), drop_offset f.offset f.step (semi n) h) (omega (arith, k.0, k.1))

-- a value in steps of one lies between its offset and what its digits reach
value_range : (d : Digits) (f : Field) (n : ℕ) → f.step ≡ 1 → Decent d n → n < base d ^ f.width
    → (f.offset ≤ value_of d f n) × (value_of d f n ≤ f.offset + reaches d f.width)
unfolding value_of
value_range Bits f n e k h = rw (e, mul-one n) (omega arith, omega arith)
value_range Pairs f n e k h = rw (e, mul-one n) (omega arith, omega arith)
value_range SwappedPairs f n e k h = rw (e, mul-one (n % 10 * 10 + n / 10)) (omega arith, omega arith)
value_range SemiOctets f n e k h =
    rw (le-ltb 127 (semi n) (omega (arith, k.0, k.1)), e, mul-one (semi n)) (omega arith, omega (arith, k.0, k.1))

-- ---- the six in a row

-- a plain word, its bytes in order: nothing below or above its fields, and digits in them
pub record PlainWord (l : Layout) (low top p : ℕ) : Type 0 where
  pub below : p % base l.digits ^ low ≡ 0
  pub above : p < base l.digits ^ top
  pub year : Decent l.digits (stored l.digits l.year p)
  pub month : Decent l.digits (stored l.digits l.month p)
  pub day : Decent l.digits (stored l.digits l.day p)
  pub hour : Decent l.digits (stored l.digits l.hour p)
  pub minute : Decent l.digits (stored l.digits l.minute p)
  pub second : Decent l.digits (stored l.digits l.second p)

base_above_0 : (d : Digits) → 0 < base d
base_above_0 Bits = omega arith
base_above_0 Pairs = omega arith
base_above_0 SwappedPairs = omega arith
base_above_0 SemiOctets = omega arith

module _ (l : Layout) (r : Regular l) (p : ℕ) where
  at_place : (f : Field) (place : ℕ) → f.place ≡ place → 0 < f.step → Decent l.digits (stored l.digits f p)
      → numeral l.digits f (value_in l f p) ≡ p / base l.digits ^ place % base l.digits ^ f.width
  at_place f place e h k =
      number_back l.digits f (stored l.digits f p) h k ∙ ap (λ (x : ℕ). p / base l.digits ^ x % base l.digits ^ f.width) e

  read_slot : Field → Slot
  read_slot f = slot l.digits f (value_in l f p)

  unfoldable down_list : List Slot
  down_list = read_slot l.second ∷ read_slot l.minute ∷ read_slot l.hour ∷ read_slot l.day ∷ read_slot l.month ∷ read_slot l.year ∷ []

  pub down_packed : Down l → PlainWord l l.second.place (l.year.place + l.year.width) p → packed l (value_in l l.year p) (fields_in l p) ≡ p
  unfolding packed fields_in down_list read_slot
  down_packed d k =
      let b = base l.digits in
      let w = r.writes in
      let e1 : l.hour.place ≡ l.second.place + l.second.width + l.minute.width = omega arith in
      let e2 : l.day.place ≡ l.second.place + l.second.width + l.minute.width + l.hour.width = omega arith in
      let e3 : l.month.place ≡ l.second.place + l.second.width + l.minute.width + l.hour.width + l.day.width = omega arith in
      let e4 : l.year.place ≡ l.second.place + l.second.width + l.minute.width + l.hour.width + l.day.width + l.month.width = omega arith in
      let s : Read b p l.second.place down_list = (
        refl,
        at_place l.second _ refl w.second.step k.second,
        (
          d.minute,
          at_place l.minute _ d.minute w.minute.step k.minute,
          (
            e1,
            at_place l.hour _ e1 w.hour.step k.hour,
            (
              e2,
              at_place l.day _ e2 w.day.step k.day,
              (
                e3,
                at_place l.month _ e3 w.month.step k.month,
                (e4, at_place l.year _ e4 w.year.step k.year, tt),
              ),
            ),
          ),
        ),
      )
      in
      let g = rebuilt b p l.second.place (base_above_0 l.digits) down_list s in
      let t : end_of l.second.place down_list ≡ l.year.place + l.year.width = omega arith in
      let m : p % b ^ end_of l.second.place down_list ≡ p = rw t (mod-eq_of_lt k.above) in
      omega (arith, g, m, k.below)

  unfoldable up_list : List Slot
  up_list = read_slot l.year ∷ read_slot l.month ∷ read_slot l.day ∷ read_slot l.hour ∷ read_slot l.minute ∷ read_slot l.second ∷ []

  pub up_packed : Up l → PlainWord l l.year.place (l.second.place + l.second.width) p → packed l (value_in l l.year p) (fields_in l p) ≡ p
  unfolding packed fields_in up_list read_slot
  up_packed d k =
      let b = base l.digits in
      let w = r.writes in
      let e1 : l.day.place ≡ l.year.place + l.year.width + l.month.width = omega arith in
      let e2 : l.hour.place ≡ l.year.place + l.year.width + l.month.width + l.day.width = omega arith in
      let e3 : l.minute.place ≡ l.year.place + l.year.width + l.month.width + l.day.width + l.hour.width = omega arith in
      let e4 : l.second.place ≡ l.year.place + l.year.width + l.month.width + l.day.width + l.hour.width + l.minute.width = omega arith in
      let s : Read b p l.year.place up_list = (
        refl,
        at_place l.year _ refl w.year.step k.year,
        (
          d.month,
          at_place l.month _ d.month w.month.step k.month,
          (
            e1,
            at_place l.day _ e1 w.day.step k.day,
            (
              e2,
              at_place l.hour _ e2 w.hour.step k.hour,
              (
                e3,
                at_place l.minute _ e3 w.minute.step k.minute,
                (e4, at_place l.second _ e4 w.second.step k.second, tt),
              ),
            ),
          ),
        ),
      )
      in
      let g = rebuilt b p l.year.place (base_above_0 l.digits) up_list s in
      let t : end_of l.year.place up_list ≡ l.second.place + l.second.width = omega arith in
      let m : p % b ^ end_of l.year.place up_list ≡ p = rw t (mod-eq_of_lt k.above) in
      omega (arith, g, m, k.below)

-- ---- there and back

-- good civil fields of a year that is written are packed
pub written_fields : (l : Layout) (c : Civil) (y : ℕ) (x : Instant) → x.nanos ≡ 0 → x.seconds ≡ seconds_of c → good c ≡ true → c.year ≡ pos y
    → l.year.offset ≤ y → y ≤ l.last → fields_encode l x ≡ gives (pos (ordered l.order (packed l y c)))
unfolding fields_encode
written_fields l c y x z s g e lo hi =
    let f = fields_of_their_seconds c g in
    rw (z, s, f.0, f.1, e, le-leb l.year.offset y lo, le-leb y l.last hi)

-- a word below 2^63 is its bits
same_word : (w : ℤ) → SFits w64 w → of_z w64 w < 2 ^ 63 → pos (of_z w64 w) ≡ w
same_word (pos n) f h = refl
same_word (negsuc n) f h = absurd (omega (arith, negative_bits n f))

-- a layout's plain words, whichever way its fields run
abbrev pub PlainIn : Layout → ℕ → Type 0
PlainIn l p =
    (Down l × PlainWord l l.second.place (l.year.place + l.year.width) p)
    ⊎ (Up l × PlainWord l l.year.place (l.second.place + l.second.width) p)

module _ (l : Layout) (r : Regular l) (w : ℤ) (f : SFits w64 w) (x : Instant) (s : Said l (of_z w64 w) x) (k : PlainIn l (ordered l.order (of_z w64 w))) where
  abbrev bits : ℕ
  bits = ordered l.order (of_z w64 w)

  same_bits : packed l (value_in l l.year bits) (fields_in l bits) ≡ bits
  same_bits = ⊎_elim (λ h. down_packed l r bits h.0 h.1) (λ h. up_packed l r bits h.0 h.1) k

  year_range : (l.year.offset ≤ value_in l l.year bits) × (value_in l l.year bits ≤ l.year.offset + reaches l.digits l.year.width)
  year_range =
      value_range l.digits l.year (stored l.digits l.year bits) r.stepped.year (⊎_elim (λ h. h.1.year) (λ h. h.1.year) k)
      (mod-lt (bits / base l.digits ^ l.year.place) (base_pos l.digits l.year.width))

  year_small : value_in l l.year bits ≤ 9999
  unfolding fields_in
  year_small =
      let c = fields_of_their_seconds (fields_in l bits) s.good_fields in
      let g : Ranged (fields_in l bits) = subst Ranged c.1 (field_ranges (seconds_of (fields_in l bits)) c.0) in
      omega (arith, g.year)

  year_last : value_in l l.year bits ≤ l.last
  year_last = ⊎_elim (λ (h : l.last ≡ 9999). omega (arith, h, year_small)) (λ h. omega (arith, h, year_range.1)) r.reach

  small : of_z w64 w < 2 ^ 63
  small =
      let o = stays_below l.order bits (omega (arith, s.below, r.writes.words)) in
      rw (undoes_itself l.order (of_z w64 w)) at o

  pub plain_back : fields_encode l x ≡ gives w
  unfolding fields_in
  plain_back =
      written_fields l (fields_in l bits) (value_in l l.year bits) x s.nanos s.seconds s.good_fields refl year_range.0 year_last
      ∙ ap (λ n. gives (pos (ordered l.order n))) same_bits ∙ ap (λ n. gives (pos n)) (undoes_itself l.order (of_z w64 w)) ∙ ap gives (same_word w f small)
