-- The decoded instant is the latest of all that any word of a layout says: what a word says is a whole number of steps
-- after a minute, and the encoder cuts down to that.
use mathlib.Core.Path.{◌≡◌, refl, sym, ap, ◌∙◌}
use mathlib.Core.Bool.{Bool, true, false, cond}
use Prim.Native.Nat.{ℕ, ◌+◌, ◌*◌, ◌/◌, ◌%◌, ◌≤◌, ◌<◌}
use native.Mathlib.Nat.{zero-add, mul-mod_left, mod-one, mul-le-mul_right, div-add-mod'}
use native.Mathlib.Omega.{arith}
use native.Mathlib.Decide.{dec_lt}
use lib.Dec.{ltb}
use lib.Signed.{lt_z}
use borrow.Author.Tests.{le-ltb, ltb-true, ltb-false}
use Rattle.refusal.specs.Answers.{gives, refused}
use Rattle.refusal.proofs.Answers.{clash}
use Rattle.signed.proofs.Differences.{order}
use Rattle.instant.specs.Instants.{decides, at}
use Rattle.instant.specs.declared.instants.Instant.{Instant}
use Rattle.day_time.specs.Times.{good, seconds_of}
use Rattle.day_time.specs.Promises.{with_second}
use Rattle.day_time.specs.declared.times.Civil.{Civil}
use Rattle.day_time.proofs.Order.{seconds_n, seconds_are}
use Rattle.day_time.proofs.Promises.{its_second}
use Rattle.byte_orders.specs.Orders.{ordered}
use Rattle.layouts.specs.Pairs.{swapped}
use Rattle.unpacking.specs.Reading.{value_of, fields_in}
use Rattle.layouts.specs.declared.layouts.Field.{Field}
use Rattle.layouts.specs.declared.layouts.Layout.{Layout}
use Rattle.layouts.specs.declared.layouts.Digits.{Digits}
use Rattle.layouts.specs.declared.layouts.Digits.TheVariants.{Bits, Pairs, SwappedPairs, SemiOctets}
use Rattle.packing.proofs.Packing.{div_mono}
use Rattle.instant.specs.Answers.{at_nanos}
use Rattle.registry.proofs.Instants.{local_is}
use Rattle.registry.specs.Words.{local_decode}
use Rattle.loss.specs.Loss.{NotAfter}
use Rattle.loss.proofs.Regular.{StepOf}
use Rattle.gregorian.specs.Gregorian.{epoch_day}

-- ---- instants of whole seconds

-- a whole second that is not after an instant is not after its second
pub not_after : (x t : Instant) → x.nanos ≡ 0 → NotAfter x t → lt_z t.seconds x.seconds ≡ false
not_after x t z h = go (lt_z t.seconds x.seconds) (lt_z x.seconds t.seconds) h
  where
    go : (a b : Bool) → decides a b (ltb t.nanos x.nanos) ≡ false → a ≡ false
    go false b e = refl
    go true b e = e

pub whole_not_after : (x t : Instant) → x.nanos ≡ 0 → lt_z t.seconds x.seconds ≡ false → NotAfter x t
whole_not_after x t z h = rw (h, z, le-ltb t.nanos 0 (omega arith)) (go (lt_z x.seconds t.seconds))
  where
    go : (b : Bool) → cond b false false ≡ false
    go true = refl
    go false = refl

-- ---- whole steps

times : (o n k : ℕ) → o ≡ 0 → (o + n * k) % k ≡ 0
times o n k e = rw (e, zero-add (n * k)) (mul-mod_left n k)

pub whole_steps : (d : Digits) (f : Field) (n : ℕ) → f.offset ≡ 0 → StepOf d f.step → value_of d f n % f.step ≡ 0
unfolding value_of
whole_steps Bits f n e h = times f.offset n f.step e
whole_steps Pairs f n e h = times f.offset n f.step e
whole_steps SwappedPairs f n e h = times f.offset (swapped n) f.step e
whole_steps SemiOctets f n e h = rw h (mod-one _)

-- the latest multiple of k that is not after a
pub latest : (a b k : ℕ) → 0 < k → b % k ≡ 0 → b ≤ a → b ≤ a / k * k
latest a b k p e h =
    let q : b / k * k ≡ b = sym (omega (arith, div-add-mod' b k, e)) in
    rw (← q) (mul-le-mul_right k (div_mono p h))

-- ---- what a word says

pub record Said (l : Layout) (v : ℕ) (x : Instant) : Type 0 where
  pub nanos : x.nanos ≡ 0
  pub good_fields : good (fields_in l (ordered l.order v)) ≡ true
  pub seconds : x.seconds ≡ seconds_of (fields_in l (ordered l.order v))
  pub below : ordered l.order v < l.words

pub said : (l : Layout) (v : ℕ) (x : Instant) → local_decode l v ≡ gives x → Said l v x
said l v x e = go (ltb (ordered l.order v) l.words) refl (good (fields_in l (ordered l.order v))) refl (sym (local_is l v) ∙ e)
  where
    go : (b : Bool) → ltb (ordered l.order v) l.words ≡ b → (g : Bool) → good (fields_in l (ordered l.order v)) ≡ g
        → cond b (at_nanos 0 (cond g (gives (seconds_of (fields_in l (ordered l.order v)))) (refused 3))) (refused 2) ≡ gives x → Said l v x
    go true hb true hg e =
        let t : at (seconds_of (fields_in l (ordered l.order v))) 0 ≡ x = cc in
        record { nanos = sym (ap (λ i. i.nanos) t); good_fields = hg; seconds = sym (ap (λ i. i.seconds) t); below = ltb-true (ordered l.order v) l.words hb }
    go true hb false hg e = absurd (clash 3 x (refused 3) refl e)
    go false hb g hg e = absurd (clash 2 x (refused 2) refl e)

-- a good civil time of whole steps that is not after another is not after the other with its second cut
pub cut_latest : (a c : Civil) (k : ℕ) → 0 < k → good a ≡ true → good c ≡ true → a.second % k ≡ 0
    → lt_z (seconds_of c) (seconds_of a) ≡ false → lt_z (seconds_of (with_second c (c.second / k * k))) (seconds_of a) ≡ false
cut_latest a c k p ga gc e h =
    let d = with_second c (c.second / k * k) in
    let o = rw (seconds_are c, seconds_are a, order (epoch_day * 86400) (seconds_n c) (seconds_n a)) at h in
    let n = ltb-false (seconds_n c) (seconds_n a) o in
    rw (seconds_are d, seconds_are a, order (epoch_day * 86400) (seconds_n d) (seconds_n a)) (le-ltb (seconds_n d) (seconds_n a) (go (dec_lt a.second (c.second + 1)) n))
  where
    go : Dec (a.second < c.second + 1) → seconds_n a ≤ seconds_n c → seconds_n a ≤ seconds_n (with_second c (c.second / k * k))
    go (yes l) n = let m = latest c.second a.second k p e (omega arith) in omega (arith, its_second a ga, its_second c gc)
    go (no l) n = omega (arith, its_second a ga, its_second c gc)
