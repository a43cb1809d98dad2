-- Proofs of what specs/Promises.antt states.
use mathlib.Core.Path.{◌≡◌, sym, ap, ◌∙◌}
use mathlib.Core.Bool.{true, ◌&&◌}
use Prim.Native.Nat.{ℕ, zero, suc, ◌+◌, ◌-◌, ◌*◌, ◌/◌, ◌%◌, ◌<◌, ◌^◌}
use native.Mathlib.Omega.{arith}
use native.Mathlib.Nat.{div-add-mod'}
use lib.Dec.{ltb, leb→le}
use lib.IntN.{ℤ, pos, negsuc, ◌+ℤ◌, ◌-ℤ◌, ◌*ℤ◌, +ℤ_assoc, +ℤ-neg_ℤ_cancel}
use lib.Signed.{mag, ◌≤ℤ◌}
use borrow.Author.Tests.{ltb-true, ne_eqb}
use Rattle.refusal.proofs.Promises.{one_answer}
use Rattle.signed.specs.Floor.{quotient, rest, floor_div, floor_rem}
use Rattle.signed.proofs.Floor.{floor_law, floor_back, rest_of_rest}
use Rattle.signed.proofs.Tests.{and_left, and_right}
use Rattle.month_lengths.specs.Lengths.{leap, days_of_months}
use Rattle.month_lengths.proofs.Months.{month_most}
use Rattle.gregorian.specs.Gregorian.{days_to, day_number}
use Rattle.gregorian.specs.Dates.{good_date, date_at}
use Rattle.gregorian.proofs.YearSums.{closed_is}
use Rattle.gregorian.proofs.Days.{year_low, year_high}
use Rattle.gregorian.proofs.Trip.{its_year, its_month_low, its_month_high, its_day_low, its_day_high}
use Rattle.gregorian.proofs.Promises.{day_of_its_date, date_of_its_day}
use Rattle.day_time.specs.Times.{in_window, good_time, good, seconds_from, seconds_of, fields_at}
use Rattle.day_time.specs.Answers.{seconds_for, fields_for}
use Rattle.day_time.specs.Promises.{SecondsOfTheirFields, FieldsOfTheirSeconds, OneTime, EnginesAgree, FieldRanges, WindowSize, LinearSecond, FlooredSeconds, Epochs, with_second}
use Rattle.day_time.specs.declared.times.Civil.{Civil}
use Rattle.day_time.proofs.Window.{time_good}
use Rattle.day_time.proofs.Days.{window_low, window_high, window_day}

-- ---- the parts of good fields

module _ (c : Civil) (g : good c ≡ true) where
  pub its_date : good_date c.year c.month c.day ≡ true
  its_date = and_left (good_date c.year c.month c.day) (good_time c.hour c.minute c.second && in_window (seconds_of c)) g

  its_rest : good_time c.hour c.minute c.second && in_window (seconds_of c) ≡ true
  its_rest = and_right (good_date c.year c.month c.day) (good_time c.hour c.minute c.second && in_window (seconds_of c)) g

  its_time : good_time c.hour c.minute c.second ≡ true
  its_time = and_left (good_time c.hour c.minute c.second) (in_window (seconds_of c)) its_rest

  pub its_window : in_window (seconds_of c) ≡ true
  its_window = and_right (good_time c.hour c.minute c.second) (in_window (seconds_of c)) its_rest

  pub its_hour : c.hour < 24
  its_hour = ltb-true c.hour 24 (and_left (ltb c.hour 24) (ltb c.minute 60) (and_left (ltb c.hour 24 && ltb c.minute 60) (ltb c.second 60) its_time))

  pub its_minute : c.minute < 60
  its_minute = ltb-true c.minute 60 (and_right (ltb c.hour 24) (ltb c.minute 60) (and_left (ltb c.hour 24 && ltb c.minute 60) (ltb c.second 60) its_time))

  pub its_second : c.second < 60
  its_second = ltb-true c.second 60 (and_right (ltb c.hour 24 && ltb c.minute 60) (ltb c.second 60) its_time)

-- ---- there and back

pub seconds_of_their_fields : SecondsOfTheirFields
unfolding seconds_of fields_at
seconds_of_their_fields s w =
    let d = day_of_its_date (floor_div s 86400) (window_day s w) in
    let f = floor_law s 86400 (omega arith) in
    let r = floor_rem s 86400 in
    let t : r / 3600 * 3600 + r % 3600 / 60 * 60 + r % 60 ≡ r = omega arith in
    let e : seconds_of (fields_at s) ≡ s = ap (λ z. seconds_from z (r / 3600) (r % 3600 / 60) (r % 60)) d.1 ∙ ap (λ n. floor_div s 86400 *ℤ pos 86400 +ℤ pos n) t ∙ f.0 in
    (rw (d.0, time_good (r / 3600) (r % 3600 / 60) (r % 60) (omega (arith, f.1)) (omega arith) (omega arith), e) w, e)

pub fields_of_their_seconds : FieldsOfTheirSeconds
unfolding seconds_of fields_at
fields_of_their_seconds c g =
    let h = its_hour c g in
    let m = its_minute c g in
    let s = its_second c g in
    let t = c.hour * 3600 + c.minute * 60 + c.second in
    let n = day_number c.year c.month c.day in
    let f = floor_back n 86400 t (omega arith) in
    let d = (date_of_its_day c.year c.month c.day (its_date c g)).1 in
    let e : date_at (floor_div (seconds_of c) 86400) ≡ record { year = c.year; month = c.month; day = c.day } = ap date_at f.0 ∙ d in
    let hour : floor_rem (seconds_of c) 86400 / 3600 ≡ c.hour = ap (λ k. k / 3600) f.1 ∙ omega arith in
    let minute : floor_rem (seconds_of c) 86400 % 3600 / 60 ≡ c.minute = ap (λ k. k % 3600 / 60) f.1 ∙ omega arith in
    let second : floor_rem (seconds_of c) 86400 % 60 ≡ c.second = ap (λ k. k % 60) f.1 ∙ omega arith in (
      its_window c g,
      (λ i. record { year = (e i).year; month = (e i).month; day = (e i).day; hour = hour i; minute = minute i; second = second i }),
    )

pub one_time : OneTime
one_time a b g h e = sym (fields_of_their_seconds a g).1 ∙ ap fields_at e ∙ (fields_of_their_seconds b h).1

-- ---- one answer from both engines

pub engines_agree : EnginesAgree
engines_agree = (λ c a b p q. one_answer ℤ (seconds_for c) a b p q, λ s a b p q. one_answer Civil (fields_for s) a b p q)

-- ---- the second

pub linear_second : LinearSecond
unfolding seconds_of
linear_second c j k =
    let n = day_number c.year c.month c.day *ℤ pos 86400 in
    let t = c.hour * 3600 + c.minute * 60 in
    ap (λ x. n +ℤ pos x) (omega arith) ∙ sym (+ℤ_assoc n (pos (t + j)) (pos k))

-- a sum less what was added
cancel : (x y : ℤ) (k : ℕ) → x +ℤ pos k ≡ y +ℤ pos k → x ≡ y
cancel x y k e = sym (+ℤ-neg_ℤ_cancel x (pos k)) ∙ ap (λ z. z -ℤ pos k) e ∙ +ℤ-neg_ℤ_cancel y (pos k)

-- the second is what a minute leaves
second_is : (s : ℤ) → (fields_at s).second ≡ rest s 60
unfolding fields_at
second_is s = rest_of_rest s 1440 60 (omega arith) (omega arith)

pub floored_seconds : FlooredSeconds
floored_seconds s k q w p e =
    let c = fields_at s in
    let j = c.second in
    let r : rest s k ≡ j % k = sym (rest_of_rest s q k (some q e) p) ∙ ap (λ n. rest s n % k) e ∙ ap (λ n. n % k) (sym (second_is s)) in
    let whole : j / k * k + j % k ≡ j = div-add-mod' j k in
    let l = sym (linear_second c (j / k * k) (j % k)) ∙ ap (λ n. seconds_of (with_second c n)) whole ∙ (seconds_of_their_fields s w).1 in
    let f = ap (λ n. quotient s k *ℤ pos k +ℤ pos n) (sym r) ∙ (floor_law s k p).0 in
    rw (ne_eqb k 0 (λ z. omega arith)) (cancel (seconds_of (with_second c (j / k * k))) (quotient s k *ℤ pos k) (j % k) (l ∙ sym f))
  where
    some : (q : ℕ) → q * k ≡ 60 → 0 < q
    some zero e = absurd (omega arith)
    some (suc q) e = omega arith

-- ---- ranges

small_year : (y : ℤ) → negsuc 9998 ≤ℤ y → y ≤ℤ pos 9999 → mag y < 10000
small_year (pos n) l h = omega (arith, leb→le n 9999 h.le)
small_year (negsuc n) l h = omega (arith, leb→le n 9998 l.le)

pub field_ranges : FieldRanges
field_ranges s w =
    let c = fields_at s in
    let g = (seconds_of_their_fields s w).0 in
    let d = its_date c g in
    let y = its_year c.year c.month c.day d in
    let low = its_month_low c.year c.month c.day d in
    let high = its_month_high c.year c.month c.day d in
    record {
      year = small_year c.year (year_low c.year y) (year_high c.year y);
      month_low = low;
      month_high = high;
      day_low = its_day_low c.year c.month c.day d;
      day_high = omega (arith, its_day_high c.year c.month c.day d, month_most (leap c.year) (c.month - 1) (omega arith));
      hour = omega (arith, its_hour c g);
      minute = omega (arith, its_minute c g);
      second = omega (arith, its_second c g);
    }

small_second : (s : ℤ) → negsuc 377705023200 ≤ℤ s → s ≤ℤ pos 253402207200 → mag s < 2 ^ 39
small_second (pos n) l h = omega (arith, leb→le n 253402207200 h.le)
small_second (negsuc n) l h = omega (arith, leb→le n 377705023200 l.le)

pub window_size : WindowSize
window_size s w = small_second s (window_low s w) (window_high s w)

-- ---- epochs

pub epochs : Epochs
unfolding seconds_of day_number days_to days_of_months leap
epochs = ((simp closed_is, simp closed_is), (simp closed_is, simp closed_is), (simp closed_is, simp closed_is), (simp closed_is, simp closed_is))
