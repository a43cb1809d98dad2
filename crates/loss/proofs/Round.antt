-- An instant that is written comes back with its second cut down to the layout's step, once over a description.
use mathlib.Core.Path.{◌≡◌, refl, ◌∙◌, ap, subst}
use mathlib.Core.Bool.{Bool, true, false, cond, false≢true}
use Prim.Native.Nat.{ℕ, ◌+◌, ◌-◌, ◌*◌, ◌/◌, ◌≤◌}
use native.Mathlib.Nat.{div-one, mul-one, sub-zero, zero-add, div-mul-le_self}
use native.Mathlib.Omega.{arith}
use lib.Dec.{leb}
use lib.IntN.{ℤ, pos, negsuc, nat_abs}
use lib.Signed.{◌≤ℤ◌}
use mir.Syntax.{w64}
use mir.Val.{of_z}
use borrow.Author.Tests.{lt-ltb, leb-true}
use Rattle.refusal.specs.Answers.{gives, refused}
use Rattle.refusal.proofs.Answers.{clash, given_under}
use Rattle.signed.proofs.Differences.{low, high, most}
use Rattle.signed.proofs.Tests.{le_le_z, and_left, and_right}
use Rattle.month_lengths.specs.Lengths.{year_days, year_at}
use Rattle.gregorian.specs.Gregorian.{years_to, days_of_years, epoch_day}
use Rattle.gregorian.proofs.YearSums.{closed_is, years_suc}
use Rattle.gregorian.proofs.Wholes.{rises}
use Rattle.gregorian.proofs.Trip.{in_its_year}
use Rattle.instant.specs.declared.instants.Instant.{Instant}
use Rattle.day_time.specs.Times.{in_window, good, seconds_of, fields_at}
use Rattle.day_time.specs.Answers.{fields_for}
use Rattle.day_time.specs.Promises.{Ranged, with_second}
use Rattle.day_time.specs.declared.times.Civil.{Civil}
use Rattle.day_time.proofs.Window.{time_good}
use Rattle.day_time.proofs.Days.{window_high}
use Rattle.day_time.proofs.Order.{seconds_n, seconds_are}
use Rattle.day_time.proofs.Promises.{seconds_of_their_fields, field_ranges, its_date, its_window, its_hour, its_minute, its_second}
use Rattle.byte_orders.specs.Orders.{ordered}
use Rattle.unpacking.specs.Reading.{fields_in}
use Rattle.layouts.specs.declared.layouts.Layout.{Layout}
use Rattle.packing.specs.Writing.{packed, writes, write_fields}
use Rattle.packing.specs.Parts.{Packing}
use Rattle.packing.proofs.Packing.{packed_words}
use Rattle.registry.specs.Words.{local_decode, fields_encode}
use Rattle.byte_orders.proofs.Promises.{undoes_itself}
use Rattle.loss.proofs.Regular.{Regular}
use Rattle.loss.proofs.Trip.{cut_civil, fields_back}
use Rattle.instant.specs.Instants.{at}

-- ---- what an accepted instant is

-- a year that is written is not negative, and lies in the encoder's years
pub year_written : (l : Layout) (y : ℤ) → writes l y ≡ true → (y ≡ pos (nat_abs y)) × (l.year.offset ≤ nat_abs y) × (nat_abs y ≤ l.last)
year_written l (pos n) e = (
  refl,
  leb-true l.year.offset n (and_left (leb l.year.offset n) (leb n l.last) e),
  leb-true n l.last (and_right (leb l.year.offset n) (leb n l.last) e),
)
year_written l (negsuc n) e = absurd (false≢true e)

pub record Written (l : Layout) (t : Instant) (w : ℤ) : Type 0 where
  pub nanos : t.nanos ≤ 999999999
  pub inside : in_window t.seconds ≡ true
  pub year : writes l (fields_at t.seconds).year ≡ true
  pub word : pos (ordered l.order (packed l (nat_abs (fields_at t.seconds).year) (fields_at t.seconds))) ≡ w

pub written : (l : Layout) (t : Instant) (w : ℤ) → fields_encode l t ≡ gives w → Written l t w
unfolding fields_encode
written l t w e =
    let a = given_under (leb t.nanos 999999999) (write_fields l (fields_for t.seconds)) 9 w e in
    go (in_window t.seconds) refl a.0 a.1
  where
    go : (b : Bool) → in_window t.seconds ≡ b → leb t.nanos 999999999 ≡ true → write_fields l (cond b (gives (fields_at t.seconds)) (refused 6)) ≡ gives w → Written l t w
    go true i n h =
        let y = given_under (writes l (fields_at t.seconds).year) (gives (pos (ordered l.order (packed l (nat_abs (fields_at t.seconds).year) (fields_at t.seconds))))) 7 w h in
        let g = y.1 in
        record { nanos = leb-true t.nanos 999999999 n; inside = i; year = y.0; word = cc }
    go false i n h = absurd (clash 6 w (refused 6) refl h)

-- ---- only the second is cut

one_step : (o k v : ℕ) → k ≡ 1 → o ≤ v → o + (v - o) / k * k ≡ v
one_step o k v e h = rw (e, div-one (v - o), mul-one (v - o)) (omega arith)

no_offset : (o k v : ℕ) → o ≡ 0 → o + (v - o) / k * k ≡ v / k * k
no_offset o k v e = rw (e, sub-zero v, zero-add (v / k * k))

cut_second : (l : Layout) → Regular l → (y : ℕ) (c : Civil) → Ranged c → l.year.offset ≤ y → c.year ≡ pos y → cut_civil l y c ≡ with_second c (c.second / l.second.step * l.second.step)
cut_second l r y c g lo e =
    let s = r.stepped in
    rw (
      e,
      one_step l.year.offset l.year.step y s.year lo,
      one_step l.month.offset l.month.step c.month s.month (omega (arith, s.month_offset, g.month_low)),
      one_step l.day.offset l.day.step c.day s.day (omega (arith, s.day_offset)),
      one_step l.hour.offset l.hour.step c.hour s.hour (omega (arith, s.hour_offset)),
      one_step l.minute.offset l.minute.step c.minute s.minute (omega (arith, s.minute_offset)),
      no_offset l.second.offset l.second.step c.second s.second_offset,
    )

-- ---- and a cut second stays good, from the year 0 on

after_year_zero : (c : Civil) (y : ℕ) → c.year ≡ pos y → good c ≡ true → 315569520000 ≤ seconds_n c
after_year_zero c y e g =
    let i = in_its_year c.year c.month c.day (its_date c g) in
    let n : years_to c.year ≡ y + 10000 = ap years_to e in
    omega (arith, i.is, closed_is 10000, rises (λ k. year_days (year_at k)) days_of_years years_suc 10000 (years_to c.year) (omega (arith, n)))

pub cut_good : (c : Civil) (y j : ℕ) → c.year ≡ pos y → good c ≡ true → j ≤ c.second → good (with_second c j) ≡ true
cut_good c y j e g h =
    let n = seconds_n c in
    let m = seconds_n (with_second c j) in
    let s = its_second c g in
    let top = most 253402207200 n (epoch_day * 86400) (subst (λ z. z ≤ℤ pos 253402207200) (seconds_are c) (window_high (seconds_of c) (its_window c g))) in
    let from : 315569520000 ≤ n = after_year_zero c y e g in
    let w : in_window (seconds_of (with_second c j)) ≡ true =
    rw (seconds_are (with_second c j), le_le_z (low 377705023200 m (epoch_day * 86400) (omega arith))) (le_le_z (high 253402207200 m (epoch_day * 86400) (omega arith)))
    in
    rw (its_date c g, time_good c.hour c.minute j (its_hour c g) (its_minute c g) (omega arith)) w

-- ---- there and back

module _ (l : Layout) (r : Regular l) (t : Instant) (w : ℤ) (e : fields_encode l t ≡ gives w) where
  abbrev pub time : Civil
  time = fields_at t.seconds

  -- the civil time that the word says
  abbrev pub cut : Civil
  cut = with_second time (time.second / l.second.step * l.second.step)

  pub accepted : Written l t w
  accepted = written l t w e

  pub time_is_good : good time ≡ true
  time_is_good = (seconds_of_their_fields t.seconds accepted.inside).0

  pub year_is : time.year ≡ pos (nat_abs time.year)
  year_is = (year_written l time.year accepted.year).0

  pub packing : Packing l.digits l (nat_abs time.year) time
  packing = record {
    digits = refl;
    writable = r.writes;
    ranged = field_ranges t.seconds accepted.inside;
    first = (year_written l time.year accepted.year).1;
    last = (year_written l time.year accepted.year).2;
  }

  pub cut_is_good : good cut ≡ true
  cut_is_good = cut_good time (nat_abs time.year) (time.second / l.second.step * l.second.step) year_is time_is_good (div-mul-le_self time.second l.second.step)

  pub comes_back : local_decode l (of_z w64 w) ≡ gives (at (seconds_of cut) 0)
  unfolding local_decode
  comes_back =
      let p = packed l (nat_abs time.year) time in
      let f : fields_in l p ≡ cut = fields_back l r (nat_abs time.year) time packing ∙ cut_second l r (nat_abs time.year) time packing.ranged packing.first year_is in
      rw (← accepted.word, undoes_itself l.order p, lt-ltb p l.words (packed_words l (nat_abs time.year) time packing), f, cut_is_good)
