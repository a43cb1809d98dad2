-- What a word of layout 16 loses. Every signed number is written as a difference of natural ones, so that how far a word is
-- from an instant becomes 3r - 10^7 k for the word that is written, r being the nanoseconds of the day and k the nearest
-- tick, and a whole number of times 10^7 more or less for any other.
use mathlib.Core.Path.{◌≡◌, refl, sym, ap, ◌∙◌, subst₂}
use mathlib.Core.Bool.{Bool, true, false, ◌&&◌}
use Prim.Native.Nat.{ℕ, suc, ◌+◌, ◌*◌, ◌/◌, ◌%◌, ◌<◌, ◌≤◌, ◌^◌}
use native.Mathlib.Omega.{arith}
use native.Mathlib.Decide.{dec_lt}
use lib.Dec.{eqb, leb}
use lib.IntN.{ℤ, pos, negsuc, sub_ℕ, neg_ℤ, nat_abs, ◌+ℤ◌, ◌-ℤ◌, ◌*ℤ◌, -ℤ-+ℤ_cancel}
use lib.Signed.{lt_z, le_z, ◌≤ℤ◌}
use mir.Syntax.{w64}
use mir.Val.{SFits, of_z}
use borrow.Author.Tests.{le-leb, leb-true, eqb-true, eqb-false, ne_eqb}
use Rattle.refusal.specs.Answers.{gives}
use Rattle.refusal.proofs.Answers.{clash, held, given_under}
use Rattle.signed.specs.Floor.{floor_div, floor_rem}
use Rattle.signed.proofs.Differences.{neg_plus, across, times_plus, difference, times, less_difference, gap, size, at_most}
use Rattle.signed.proofs.Floor.{floor_law, floor_back}
use Rattle.instant.specs.declared.instants.Instant.{Instant}
use Rattle.counts.specs.Sql.{sql_day, sql_ticks, sql_decode, nearest_tick, day_word, rolled, sql_word, sql_encode, exact_ticks, thirds}
use Rattle.counts.proofs.SqlParts.{read, whole, day_held, small_day}
use Rattle.counts.proofs.SqlDays.{no_ticks, ticks, time_small}
use Rattle.registry.specs.Words.{rule_for}
use Rattle.loss.specs.Loss.{Decodes, Nearest}
use Rattle.instant.specs.Instants.{at}

-- ---- the word of an instant

-- d days and k ticks: a full day's ticks are tick 0 of the next day, which is the same time
record Written (d : ℤ) (k : ℕ) (w : ℤ) : Type 0 where
  few : sql_ticks (of_z w64 w) < 25920000
  exact : exact_ticks w ≡ d *ℤ pos 25920000 +ℤ pos k

next_day : (d : ℤ) → (d +ℤ pos 1) *ℤ pos 25920000 +ℤ pos 0 ≡ d *ℤ pos 25920000 +ℤ pos 25920000
next_day (pos a) = ap pos (omega arith)
next_day (negsuc a) = times_plus 1 (suc a) 25920000 0 ∙ sym (neg_plus (suc a * 25920000) 25920000)

on_day : (d e : ℤ) (k j : ℕ) (w : ℤ) → j < 25920000 → e *ℤ pos 25920000 +ℤ pos j ≡ d *ℤ pos 25920000 +ℤ pos k → gives w ≡ day_word e j → Written d k w
on_day d e k j w l x g =
    let h = held (le_z (neg_ℤ (pos (2 ^ 31))) e && lt_z e (pos (2 ^ 31))) w (e *ℤ pos (2 ^ 32) +ℤ pos j) 8 g in
    let p = read e j (small_day e h.0) (omega arith) in
    rw h.1 (record { few = omega (arith, p.1); exact = (λ i. p.0 i *ℤ pos 25920000 +ℤ pos (p.1 i)) ∙ x })

written : (d : ℤ) (k : ℕ) (w : ℤ) → k ≤ 25920000 → rolled d k ≡ gives w → Written d k w
written d k w l e = go (eqb k 25920000) refl
  where
    go : (b : Bool) → eqb k 25920000 ≡ b → Written d k w
    go true f = on_day d (d +ℤ pos 1) k 0 w (omega arith) (next_day d ∙ ap (λ n. d *ℤ pos 25920000 +ℤ pos n) (sym (eqb-true k 25920000 f))) (sym (rw f at e))
    go false f = on_day d d k k w (omega (arith, eqb-false k 25920000 f)) refl (sym (rw f at e))

-- the day of an instant from 1900-01-01 on, and the nanoseconds of that day
abbrev day_of : Instant → ℤ
day_of t = floor_div (t.seconds +ℤ pos 2208988800) 86400

abbrev rest_of : Instant → ℕ
rest_of t = floor_rem (t.seconds +ℤ pos 2208988800) 86400 * 1000000000 + t.nanos

made : (t : Instant) (w : ℤ) → sql_encode t ≡ gives w → Written (day_of t) (nearest_tick (rest_of t)) w
unfolding sql_encode sql_word
made t w e =
    let h = given_under (leb t.nanos 999999999) (rolled (day_of t) (nearest_tick (rest_of t))) 9 w e in
    let n = leb-true t.nanos 999999999 h.0 in
    let s = time_small (t.seconds +ℤ pos 2208988800) in
    let l : rest_of t < 86400000000000 = omega arith in
    written (day_of t) (nearest_tick (rest_of t)) w (omega arith) h.1

-- ---- how far a word is from an instant

-- an instant of the day a - b
module _ (d : ℤ) (a b : ℕ) (e : d ≡ sub_ℕ a b) where
  ticks_from : (k : ℕ) → d *ℤ pos 25920000 +ℤ pos k ≡ sub_ℕ (a * 25920000 + k) (b * 25920000)
  ticks_from k = ap (λ z. z *ℤ pos 25920000 +ℤ pos k) e ∙ times_plus a b 25920000 k

  thirds_from : (s n : ℕ) → ((d *ℤ pos 86400 +ℤ pos s) *ℤ pos 1000000000 +ℤ pos n) *ℤ pos 3 ≡
      sub_ℕ (a * 25920000 * 10000000 + 3 * (s * 1000000000 + n)) (b * 25920000 * 10000000)
  thirds_from s n =
      let p = a * 86400 + s in
      let q = b * 86400 in
      ap (λ z. (z *ℤ pos 1000000000 +ℤ pos n) *ℤ pos 3) (ap (λ z. z *ℤ pos 86400 +ℤ pos s) e ∙ times_plus a b 86400 s)
      ∙ ap (λ z. z *ℤ pos 3) (times_plus p q 1000000000 n) ∙ times (p * 1000000000 + n) (q * 1000000000) 3
      ∙ across ((p * 1000000000 + n) * 3) (q * 1000000000 * 3) (a * 25920000 * 10000000 + 3 * (s * 1000000000 + n)) (b * 25920000 * 10000000) (omega arith)

thirds_are : (t : Instant) → let d = difference (day_of t) in
    thirds t ≡ sub_ℕ (d.more * 25920000 * 10000000 + 3 * rest_of t) (d.less * 25920000 * 10000000)
thirds_are t =
    let z = t.seconds +ℤ pos 2208988800 in
    let d = difference (day_of t) in
    ap (λ s. (s *ℤ pos 1000000000 +ℤ pos t.nanos) *ℤ pos 3) (sym (floor_law z 86400 (omega arith)).0)
    ∙ thirds_from (day_of t) d.more d.less d.is (floor_rem z 86400) t.nanos

-- x - y ticks from r nanoseconds after a - b ticks
abbrev off : ℕ → ℕ → ℕ → ℕ → ℕ → ℕ
off a b r x y = gap (a * 10000000 + 3 * r + y * 10000000) (b * 10000000 + x * 10000000)

apart : (a b r x y : ℕ) (t z : ℤ) → t ≡ sub_ℕ (a * 10000000 + 3 * r) (b * 10000000) → z ≡ sub_ℕ x y → nat_abs (t -ℤ z *ℤ pos 10000000) ≡ off a b r x y
apart a b r x y t z e f =
    let p = a * 10000000 + 3 * r in
    let q = b * 10000000 in
    (λ i. nat_abs (e i -ℤ f i *ℤ pos 10000000)) ∙ ap (λ c. nat_abs (sub_ℕ p q -ℤ c)) (times x y 10000000)
    ∙ ap nat_abs (less_difference p q (x * 10000000) (y * 10000000)) ∙ size (p + y * 10000000) (q + x * 10000000)

-- k ticks after a - b are at most half a tick off, no others are nearer, and others as near are not later
module _ (a b r k : ℕ) (low : 10000000 * k ≤ 3 * r + 5000000) (high : 3 * r < 10000000 * k + 5000000) where
  half_tick : off a b r (a + k) b ≤ 5000000
  half_tick = omega arith

  none_nearer : (x y : ℕ) → (off a b r (a + k) b ≤ off a b r x y) × (off a b r x y ≡ off a b r (a + k) b → x + b ≤ a + k + y)
  none_nearer x y = go (dec_lt (a + k + y) (x + b)) (dec_lt (x + b) (a + k + y))
    where
      go : Dec (a + k + y < x + b) → Dec (x + b < a + k + y) →
          (off a b r (a + k) b ≤ off a b r x y) × (off a b r x y ≡ off a b r (a + k) b → x + b ≤ a + k + y)
      go (yes p) q = (omega arith, λ e. omega arith)
      go (no p) (yes q) = (omega arith, λ e. omega arith)
      go (no p) (no q) = (omega arith, λ e. omega arith)

-- ---- the instant of a word

abbrev sql_instant : ℕ → Instant
sql_instant n =
    at (sql_day n *ℤ pos 86400 +ℤ pos (sql_ticks n / 300) -ℤ pos 2208988800) (sql_ticks n % 300 * 10000000 / 3)

said_by : (n : ℕ) (t : Instant) → sql_decode n ≡ gives t → (sql_ticks n < 25920000) × (t ≡ sql_instant n)
said_by n t e = go (dec_lt (sql_ticks n) 25920000)
  where
    go : Dec (sql_ticks n < 25920000) → (sql_ticks n < 25920000) × (t ≡ sql_instant n)
    go (yes h) = let s = ticks n h in (h, cc)
    go (no h) = absurd (clash 5 t (sql_decode n) (no_ticks n (omega arith)) e)

-- a tick cut down to a whole nanosecond is nearest to itself
same_tick : (k : ℕ) → nearest_tick (k / 300 * 1000000000 + k % 300 * 10000000 / 3) ≡ k
same_tick k = omega arith

its_word : (n : ℕ) → sql_ticks n < 25920000 → sql_encode (sql_instant n) ≡ rolled (sql_day n) (sql_ticks n)
unfolding sql_encode sql_word
its_word n h =
    let k = sql_ticks n in
    let f = floor_back (sql_day n) 86400 (k / 300) (omega arith) in
    rw (le-leb (k % 300 * 10000000 / 3) 999999999 (omega arith), -ℤ-+ℤ_cancel (sql_day n *ℤ pos 86400 +ℤ pos (k / 300)) (pos 2208988800), f.0, f.1, same_tick k)

-- ---- the three laws

pub sql_decodes : (t : Instant) (w : ℤ) → sql_encode t ≡ gives w → Decodes 16 w
unfolding rule_for
sql_decodes t w e = record { instant = sql_instant (of_z w64 w); said = ticks (of_z w64 w) (made t w e).few }

pub sql_nearest : (t : Instant) (w : ℤ) → sql_encode t ≡ gives w → Nearest t w
sql_nearest t w e =
    let day = difference (day_of t) in
    let a = day.more * 25920000 in
    let b = day.less * 25920000 in
    let r = rest_of t in
    let k = nearest_tick r in
    let low : 10000000 * k ≤ 3 * r + 5000000 = omega arith in
    let high : 3 * r < 10000000 * k + 5000000 = omega arith in
    let exactly = (made t w e).exact ∙ ticks_from (day_of t) day.more day.less day.is k in
    let here = apart a b r (a + k) b (thirds t) (exact_ticks w) (thirds_are t) exactly in (
      omega (arith, here, half_tick a b r k low high),
      λ v x f s.
          let other = difference (exact_ticks v) in
          let there = apart a b r other.more other.less (thirds t) (exact_ticks v) (thirds_are t) other.is in
          let n = none_nearer a b r k low high other.more other.less in (
            omega (arith, here, there, n.0),
            λ q. subst₂ ◌≤ℤ◌ (sym other.is) (sym exactly) (at_most other.more other.less (a + k) b (n.1 (sym there ∙ q ∙ here))),
          ),
    )

pub sql_plain : (w : ℤ) (t : Instant) → SFits w64 w → sql_decode (of_z w64 w) ≡ gives t → sql_encode t ≡ gives w
sql_plain w t f e =
    let n = of_z w64 w in
    let h = said_by n t e in
    let l = h.0 in
    let b = whole w f in
    ap sql_encode h.1 ∙ its_word n l ∙ rw (ne_eqb (sql_ticks n) 25920000 (λ q. omega arith)) (day_held (sql_day n) (sql_ticks n) b.0 ∙ ap gives b.1)
