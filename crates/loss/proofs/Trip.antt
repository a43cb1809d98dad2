-- What was packed is read again, once over a description: each value comes back cut down to its field's step.
use mathlib.Core.Path.{◌≡◌, refl, subst}
use mathlib.Core.List.{List, [], ◌∷◌}
use mathlib.Core.Logic.{⊎_elim}
use Prim.Native.Nat.{ℕ, ◌+◌, ◌-◌, ◌*◌, ◌/◌, ◌%◌, ◌^◌, ◌≤◌, ◌<◌}
use native.Mathlib.Nat.{one-le-pow}
use native.Mathlib.Omega.{arith}
use lib.IntN.{pos}
use borrow.Author.Tests.{le-ltb}
use Rattle.day_time.specs.declared.times.Civil.{Civil}
use Rattle.layouts.specs.Layouts.{base}
use Rattle.unpacking.specs.Reading.{semi, stored, value_of, fields_in}
use Rattle.unpacking.specs.Parts.{InWord}
use Rattle.layouts.specs.declared.layouts.Field.{Field}
use Rattle.layouts.specs.declared.layouts.Layout.{Layout}
use Rattle.layouts.specs.declared.layouts.Digits.{Digits}
use Rattle.layouts.specs.declared.layouts.Digits.TheVariants.{Bits, Pairs, SwappedPairs, SemiOctets}
use Rattle.packing.specs.Writing.{steps, numeral, packed}
use Rattle.packing.specs.Parts.{TwoDigits, Fitting, Holds, Packing}
use Rattle.packing.proofs.Packing.{div_mono, packs}
use Rattle.loss.proofs.Chain.{Slot, sum_of, Chain, Got, got}
use Rattle.loss.proofs.Regular.{Down, Up, Regular}

-- a value cut down to its field's step
abbrev pub cut_down : Field → ℕ → ℕ
cut_down f v = f.offset + steps f v * f.step

-- ---- one number

swap_back : (x : ℕ) → x ≤ 99 → (x % 10 * 10 + x / 10) % 10 * 10 + (x % 10 * 10 + x / 10) / 10 ≡ x
swap_back x h = omega arith

semi_back : (x : ℕ) → x ≤ 99 → semi (x % 10 * 16 + x / 10) ≡ x
semi_back x h = omega arith

pub value_back : (d : Digits) (f : Field) (v : ℕ) → TwoDigits d (steps f v) → value_of d f (numeral d f v) ≡ cut_down f v
unfolding value_of numeral
value_back Bits f v h = refl
value_back Pairs f v h = refl
value_back SwappedPairs f v h = rw (swap_back (steps f v) h)
value_back SemiOctets f v h = rw (semi_back (steps f v) h, le-ltb 127 (steps f v) (omega arith))

two_le : (d : Digits) (n m : ℕ) → n ≤ m → TwoDigits d m → TwoDigits d n
two_le Bits n m h t = omega arith
two_le Pairs n m h t = omega arith
two_le SwappedPairs n m h t = omega arith
two_le SemiOctets n m h t = omega arith

fits_lt : (d : Digits) (f : Field) (n : ℕ) → InWord d f → Fitting d f n → n < base d ^ f.width
fits_lt Bits f n k h = h.2
fits_lt Pairs f n k h = rw k.1 h.1
fits_lt SwappedPairs f n k h = rw k.1 h.1
fits_lt SemiOctets f n k h = h.2

holds_two : (d : Digits) (f : Field) (low high v : ℕ) → Holds d f low high → v ≤ high → TwoDigits d (steps f v)
holds_two d f low high v h b = two_le d (steps f v) ((high - f.offset) / f.step) (div_mono h.step (omega arith)) h.two

pub base_pos : (d : Digits) (k : ℕ) → 0 < base d ^ k
base_pos Bits k = one-le-pow k 2 (omega arith)
base_pos Pairs k = one-le-pow k 100 (omega arith)
base_pos SwappedPairs k = one-le-pow k 100 (omega arith)
base_pos SemiOctets k = one-le-pow k 2 (omega arith)

-- ---- the six in a row

abbrev pub slot : Digits → Field → ℕ → Slot
slot d f v = record { place = f.place; width = f.width; number = numeral d f v }

-- what stands in each of the six fields
pub record Kept (l : Layout) (p y : ℕ) (c : Civil) : Type 0 where
  pub year : stored l.digits l.year p ≡ numeral l.digits l.year y
  pub month : stored l.digits l.month p ≡ numeral l.digits l.month c.month
  pub day : stored l.digits l.day p ≡ numeral l.digits l.day c.day
  pub hour : stored l.digits l.hour p ≡ numeral l.digits l.hour c.hour
  pub minute : stored l.digits l.minute p ≡ numeral l.digits l.minute c.minute
  pub second : stored l.digits l.second p ≡ numeral l.digits l.second c.second

-- civil fields, each cut down to its step
abbrev pub cut_civil : Layout → ℕ → Civil → Civil
cut_civil l y c = record {
  year = pos (cut_down l.year y);
  month = cut_down l.month c.month;
  day = cut_down l.day c.day;
  hour = cut_down l.hour c.hour;
  minute = cut_down l.minute c.minute;
  second = cut_down l.second c.second;
}

module _ (l : Layout) (r : Regular l) (y : ℕ) (c : Civil) (p : Packing l.digits l y c) where
  year_lt : numeral l.digits l.year y < base l.digits ^ l.year.width
  year_lt = fits_lt l.digits l.year _ r.readable.year.places (packs p).year.fits

  month_lt : numeral l.digits l.month c.month < base l.digits ^ l.month.width
  month_lt = fits_lt l.digits l.month _ r.readable.month.places (packs p).month.fits

  day_lt : numeral l.digits l.day c.day < base l.digits ^ l.day.width
  day_lt = fits_lt l.digits l.day _ r.readable.day.places (packs p).day.fits

  hour_lt : numeral l.digits l.hour c.hour < base l.digits ^ l.hour.width
  hour_lt = fits_lt l.digits l.hour _ r.readable.hour.places (packs p).hour.fits

  minute_lt : numeral l.digits l.minute c.minute < base l.digits ^ l.minute.width
  minute_lt = fits_lt l.digits l.minute _ r.readable.minute.places (packs p).minute.fits

  second_lt : numeral l.digits l.second c.second < base l.digits ^ l.second.width
  second_lt = fits_lt l.digits l.second _ r.readable.second.places (packs p).second.fits

  unfoldable pub down_list : List Slot
  down_list =
      slot l.digits l.second c.second ∷ slot l.digits l.minute c.minute ∷ slot l.digits l.hour c.hour
      ∷ slot l.digits l.day c.day ∷ slot l.digits l.month c.month ∷ slot l.digits l.year y ∷ []

  unfoldable up_list : List Slot
  up_list =
      slot l.digits l.year y ∷ slot l.digits l.month c.month ∷ slot l.digits l.day c.day
      ∷ slot l.digits l.hour c.hour ∷ slot l.digits l.minute c.minute ∷ slot l.digits l.second c.second ∷ []

  pub down_chain : Down l → Chain (base l.digits) l.second.place down_list
  unfolding down_list
  down_chain d = (refl, second_lt, (d.minute, minute_lt, (omega arith, hour_lt, (omega arith, day_lt, (omega arith, month_lt, (omega arith, year_lt, tt))))))

  up_chain : Up l → Chain (base l.digits) l.year.place up_list
  unfolding up_list
  up_chain d = (refl, year_lt, (d.month, month_lt, (omega arith, day_lt, (omega arith, hour_lt, (omega arith, minute_lt, (omega arith, second_lt, tt))))))

  pub down_sum : 0 + sum_of (base l.digits) down_list ≡ packed l y c
  unfolding down_list packed
  down_sum = omega arith

  up_sum : 0 + sum_of (base l.digits) up_list ≡ packed l y c
  unfolding up_list packed
  up_sum = omega arith

  down_kept : Down l → Kept l (packed l y c) y c
  unfolding down_list
  down_kept d =
      let b = base l.digits in
      let g : Got b (packed l y c) down_list = subst (λ n. Got b n down_list) down_sum (got b l.second.place 0 (base_pos l.digits l.second.place) down_list (down_chain d)) in
      record { second = g.0; minute = g.1.0; hour = g.1.1.0; day = g.1.1.1.0; month = g.1.1.1.1.0; year = g.1.1.1.1.1.0 }

  up_kept : Up l → Kept l (packed l y c) y c
  unfolding up_list
  up_kept d =
      let b = base l.digits in
      let g : Got b (packed l y c) up_list = subst (λ n. Got b n up_list) up_sum (got b l.year.place 0 (base_pos l.digits l.year.place) up_list (up_chain d)) in
      record { year = g.0; month = g.1.0; day = g.1.1.0; hour = g.1.1.1.0; minute = g.1.1.1.1.0; second = g.1.1.1.1.1.0 }

  read_back : Kept l (packed l y c) y c → fields_in l (packed l y c) ≡ cut_civil l y c
  unfolding fields_in
  read_back k =
      let w = r.writes in
      rw (
        k.year,
        k.month,
        k.day,
        k.hour,
        k.minute,
        k.second,
        value_back l.digits l.year y (holds_two l.digits l.year l.year.offset l.last y w.year p.last),
        value_back l.digits l.month c.month (holds_two l.digits l.month 1 12 c.month w.month p.ranged.month_high),
        value_back l.digits l.day c.day (holds_two l.digits l.day 1 31 c.day w.day p.ranged.day_high),
        value_back l.digits l.hour c.hour (holds_two l.digits l.hour 0 23 c.hour w.hour p.ranged.hour),
        value_back l.digits l.minute c.minute (holds_two l.digits l.minute 0 59 c.minute w.minute p.ranged.minute),
        value_back l.digits l.second c.second (holds_two l.digits l.second 0 59 c.second w.second p.ranged.second),
      )

  -- what was packed is read again
  pub fields_back : fields_in l (packed l y c) ≡ cut_civil l y c
  fields_back = read_back (⊎_elim down_kept up_kept r.order)
