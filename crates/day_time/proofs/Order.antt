-- Good fields lie in the order of their seconds: compared field by field, where each is decided by the first that differs.
use mathlib.Core.Path.{◌≡◌, sym, ap, ◌∙◌, subst}
use mathlib.Core.Bool.{Bool, true}
use Prim.Native.Nat.{ℕ, ◌+◌, ◌*◌, ◌<◌}
use native.Mathlib.Omega.{arith}
use native.Mathlib.Decide.{dec_lt}
use lib.Dec.{ltb}
use lib.IntN.{pos, sub_ℕ, ◌+ℤ◌, ◌*ℤ◌}
use lib.Signed.{lt_z}
use borrow.Author.Tests.{lt-ltb, le-ltb}
use Rattle.signed.proofs.Differences.{minus, times_plus, order}
use Rattle.month_lengths.specs.Lengths.{year_at}
use Rattle.gregorian.specs.Gregorian.{years_to, days_to, epoch_day}
use Rattle.gregorian.specs.Dates.{good_date}
use Rattle.gregorian.proofs.Days.{year_back, number}
use Rattle.gregorian.proofs.Trip.{its_year}
use Rattle.gregorian.proofs.Order.{later_year, later_month, later_day}
use Rattle.instant.specs.Instants.{decides}
use Rattle.day_time.specs.Times.{good, seconds_of}
use Rattle.day_time.specs.Promises.{earlier, SameOrder}
use Rattle.day_time.specs.declared.times.Civil.{Civil}
use Rattle.day_time.proofs.Promises.{its_date, its_hour, its_minute, its_second}

-- the seconds from 1 January -10000
abbrev pub seconds_n : Civil → ℕ
seconds_n c = days_to c.year c.month c.day * 86400 + (c.hour * 3600 + c.minute * 60 + c.second)

pub seconds_are : (c : Civil) → seconds_of c ≡ sub_ℕ (seconds_n c) (epoch_day * 86400)
unfolding seconds_of
seconds_are c =
    let t = c.hour * 3600 + c.minute * 60 + c.second in
    ap (λ z. z *ℤ pos 86400 +ℤ pos t) (number c.year c.month c.day) ∙ times_plus (days_to c.year c.month c.day) epoch_day 86400 t

-- one part of a comparison: it decides where it differs
part : (u v x y : ℕ) (rest : Bool) → (u < v → x < y) → (v < u → y < x) → (u ≡ v → ltb x y ≡ rest) → ltb x y ≡ decides (ltb u v) (ltb v u) rest
part u v x y rest f g same = go (dec_lt u v) (dec_lt v u)
  where
    go : Dec (u < v) → Dec (v < u) → ltb x y ≡ decides (ltb u v) (ltb v u) rest
    go (yes p) q = rw (lt-ltb u v p) (lt-ltb x y (f p))
    go (no p) (yes q) = rw (le-ltb u v (omega arith), lt-ltb v u q) (le-ltb x y (omega (arith, g q)))
    go (no p) (no q) = rw (le-ltb u v (omega arith), le-ltb v u (omega arith)) (same (omega arith))

-- years as counts from -10000
year_order : (a b : Civil) → good a ≡ true → good b ≡ true → lt_z a.year b.year ≡ ltb (years_to a.year) (years_to b.year)
year_order a b g h =
    let p = sym (year_back a.year (its_year a.year a.month a.day (its_date a g))) ∙ minus (years_to a.year) 10000 in
    let q = sym (year_back b.year (its_year b.year b.month b.day (its_date b h))) ∙ minus (years_to b.year) 10000 in
    (λ i. lt_z (p i) (q i)) ∙ order 10000 (years_to a.year) (years_to b.year)

abbrev days : Civil → ℕ
days c = days_to c.year c.month c.day

-- the days of two good dates, by the first part of the date that differs
module _ (a b : Civil) (g : good a ≡ true) (h : good b ≡ true) where
  by_year : years_to a.year < years_to b.year → days a < days b
  by_year l = later_year a.year b.year a.month b.month a.day b.day (its_date a g) (its_date b h) l

  by_month : a.year ≡ b.year → a.month < b.month → days a < days b
  by_month e l =
      omega
      (arith, ap (λ y. days_to y a.month a.day) e, later_month b.year a.month b.month a.day b.day (subst (λ y. good_date y a.month a.day ≡ true) e (its_date a g)) (its_date b h) l)

  by_day : a.year ≡ b.year → a.month ≡ b.month → a.day < b.day → days a < days b
  by_day e f l =
      omega
      (arith, ap (λ y. days_to y a.month a.day) e, ap (λ m. days_to b.year m b.day) f, later_day b.year a.month a.day b.day (subst (λ y. good_date y a.month a.day ≡ true) e (its_date a g)) l)

  -- a day less is less, whatever the times of day
  sooner : days a < days b → seconds_n a < seconds_n b
  sooner l = omega (arith, its_hour a g, its_minute a g, its_second a g)

  same_year : years_to a.year ≡ years_to b.year → a.year ≡ b.year
  same_year e =
      sym (year_back a.year (its_year a.year a.month a.day (its_date a g))) ∙ ap year_at e
      ∙ year_back b.year (its_year b.year b.month b.day (its_date b h))

module _ (a b : Civil) (g : good a ≡ true) (h : good b ≡ true) where
  same_days : a.year ≡ b.year → a.month ≡ b.month → a.day ≡ b.day → days a ≡ days b
  same_days e f k = λ i. days_to (e i) (f i) (k i)

  by_time : days a ≡ days b → ltb (seconds_n a) (seconds_n b) ≡
      decides (ltb a.hour b.hour) (ltb b.hour a.hour) (decides (ltb a.minute b.minute) (ltb b.minute a.minute) (ltb a.second b.second))
  by_time d =
      let m = its_minute a g in
      let s = its_second a g in
      let m' = its_minute b h in
      let s' = its_second b h in
      part a.hour b.hour (seconds_n a) (seconds_n b) _ (λ l. omega arith) (λ l. omega arith)
      (λ e. part a.minute b.minute (seconds_n a) (seconds_n b) _ (λ l. omega arith) (λ l. omega arith) (λ f. last (dec_lt a.second b.second) e f))
    where
      last : Dec (a.second < b.second) → a.hour ≡ b.hour → a.minute ≡ b.minute → ltb (seconds_n a) (seconds_n b) ≡ ltb a.second b.second
      last (yes l) e f = lt-ltb (seconds_n a) (seconds_n b) (omega arith) ∙ sym (lt-ltb a.second b.second l)
      last (no l) e f = le-ltb (seconds_n a) (seconds_n b) (omega arith) ∙ sym (le-ltb a.second b.second (omega arith))

  by_fields : ltb (seconds_n a) (seconds_n b) ≡ earlier a b
  by_fields =
      rw (year_order a b g h, year_order b a h g)
      (part (years_to a.year) (years_to b.year) (seconds_n a) (seconds_n b) _ (λ l. sooner a b g h (by_year a b g h l)) (λ l. sooner b a h g (by_year b a h g l))
      (λ e. let y = same_year a b g h e in
      part a.month b.month (seconds_n a) (seconds_n b) _ (λ l. sooner a b g h (by_month a b g h y l)) (λ l. sooner b a h g (by_month b a h g (sym y) l))
      (λ f. part a.day b.day (seconds_n a) (seconds_n b) _ (λ l. sooner a b g h (by_day a b g h y f l)) (λ l. sooner b a h g (by_day b a h g (sym y) (sym f) l))
      (λ k. by_time (same_days y f k)))))

pub same_order : SameOrder
same_order a b g h =
    let p = seconds_are a in
    let q = seconds_are b in
    (λ i. lt_z (p i) (q i)) ∙ order (epoch_day * 86400) (seconds_n a) (seconds_n b) ∙ by_fields a b g h
