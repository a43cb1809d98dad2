-- What the layouts of civil fields lose, once over a description, and which words are plain where there is no zone.
use mathlib.Core.Path.{◌≡◌, refl, subst}
use mathlib.Core.Bool.{true, false}
use mathlib.Core.Logic.{inl, inr}
use Prim.Native.Nat.{ℕ, ◌*◌, ◌/◌, ◌%◌, ◌^◌, ◌<◌}
use native.Mathlib.Nat.{mod-one, div-mul-le_self}
use native.Mathlib.Omega.{arith}
use lib.IntN.{ℤ}
use lib.Signed.{lt_z}
use borrow.Author.Tests.{le-ltb, eqb-true}
use Rattle.refusal.specs.Answers.{gives}
use Rattle.signed.proofs.Differences.{order}
use Rattle.instant.specs.declared.instants.Instant.{Instant}
use Rattle.day_time.specs.Times.{seconds_of}
use Rattle.day_time.specs.Promises.{with_second}
use Rattle.day_time.specs.declared.times.Civil.{Civil}
use Rattle.day_time.proofs.Order.{seconds_n, seconds_are}
use Rattle.day_time.proofs.Promises.{seconds_of_their_fields}
use Rattle.byte_orders.specs.Orders.{ordered}
use Rattle.unpacking.specs.Reading.{stored, fields_in}
use Rattle.layouts.specs.Layouts.{layout_for, base}
use Rattle.layouts.specs.declared.layouts.Layout.{Layout}
use Rattle.layouts.specs.declared.kinds.Kind.{Kind}
use Rattle.layouts.specs.declared.kinds.Kind.TheVariants.{FatDos, ExFat, Dttm, BitDate, BitDec, Bcd, Moto, Symantec, Dvr, Ns40, Ns40Le, LogTime, SemiOctet, Gsm}
use Rattle.registry.specs.Words.{local_decode, fields_encode}
use Rattle.loss.specs.Loss.{NotAfter, plain}
use Rattle.registry.specs.Promises.{kind_number}
use Rattle.loss.proofs.Regular.{Regular}
use Rattle.loss.proofs.Round.{cut, time, accepted, time_is_good}
use Rattle.loss.proofs.Latest.{not_after, whole_not_after, whole_steps, said, cut_latest}
use Rattle.loss.proofs.Plain.{Decent, PlainWord, PlainIn}
use Rattle.gregorian.specs.Gregorian.{epoch_day}
use Rattle.instant.specs.Instants.{at}
use lib.Dec.{T}

-- ---- the latest

-- a civil time with its second cut down is not after it
cut_not_after : (c : Civil) (k : ℕ) → lt_z (seconds_of c) (seconds_of (with_second c (c.second / k * k))) ≡ false
cut_not_after c k =
    let d = with_second c (c.second / k * k) in
    let m = div-mul-le_self c.second k in
    rw (seconds_are c, seconds_are d, order (epoch_day * 86400) (seconds_n c) (seconds_n d)) (le-ltb (seconds_n c) (seconds_n d) (omega arith))

module _ (l : Layout) (r : Regular l) (t : Instant) (w : ℤ) (e : fields_encode l t ≡ gives w) where
  -- what the word of t says
  abbrev pub answer : Instant
  answer = at (seconds_of (cut l r t w e)) 0

  pub second_of : seconds_of (time l r t w e) ≡ t.seconds
  second_of = (seconds_of_their_fields t.seconds (accepted l r t w e).inside).1

  pub not_late : NotAfter answer t
  not_late =
      whole_not_after answer t refl (subst (λ s. lt_z s (seconds_of (cut l r t w e)) ≡ false) second_of (cut_not_after (time l r t w e) l.second.step))

  pub none_later : (v : ℕ) (x : Instant) → local_decode l v ≡ gives x → NotAfter x t → NotAfter x answer
  unfolding fields_in
  none_later v x h b =
      let s = said l v x h in
      let p = ordered l.order v in
      let a : lt_z (seconds_of (time l r t w e)) (seconds_of (fields_in l p)) ≡ false = rw (second_of, ← s.seconds) (not_after x t s.nanos b) in
      whole_not_after x answer s.nanos
      (rw s.seconds
      (cut_latest (fields_in l p) (time l r t w e) l.second.step r.writes.second.step s.good_fields (time_is_good l r t w e)
      (whole_steps l.digits l.second (stored l.digits l.second p) r.stepped.second_offset r.whole) a))

-- ---- plain words

-- nothing is asked of digits
free : (l : Layout) (low top p : ℕ) → ((n : ℕ) → Decent l.digits n) → p % base l.digits ^ low ≡ 0 → p < base l.digits ^ top → PlainWord l low top p
free l low top p d b a = record { below = b; above = a; year = d _; month = d _; day = d _; hour = d _; minute = d _; second = d _ }

pub plain_of : (k : Kind) (w : ℕ) → (layout_for k).zoned ≡ false → ordered (layout_for k).order w < (layout_for k).words → plain (kind_number k) w ≡ true → PlainIn (layout_for k) (ordered (layout_for k).order w)
unfolding ordered
plain_of FatDos w z h k = inl (omega arith, free (layout_for FatDos) 0 32 w (λ n. tt) (mod-one w) h)
plain_of ExFat w z h k = inl (omega arith, free (layout_for ExFat) 0 32 w (λ n. tt) (mod-one w) h)
plain_of Dttm w z h k = inl (omega arith, free (layout_for Dttm) 0 29 w (λ n. tt) (mod-one w) (omega (arith, eqb-true (w / 2 ^ 29 % 2 ^ 3) 0 k)))
plain_of BitDate w z h k = inl (omega arith, free (layout_for BitDate) 0 32 _ (λ n. tt) (mod-one _) h)
plain_of BitDec w z h k = inl (omega arith, free (layout_for BitDec) 0 35 w (λ n. tt) (mod-one w) h)
plain_of Bcd w z h k = inl (omega arith, free (layout_for Bcd) 0 6 w (λ n. tt) (mod-one w) h)
plain_of Moto w z h k = inl (omega arith, free (layout_for Moto) 0 48 w (λ n. tt) (mod-one w) h)
plain_of Symantec w z h k = inl (omega arith, free (layout_for Symantec) 0 48 w (λ n. tt) (mod-one w) h)
plain_of Dvr w z h k = inl (omega arith, free (layout_for Dvr) 0 32 w (λ n. tt) (mod-one w) h)
plain_of Ns40 w z h k = inl (omega arith, free (layout_for Ns40) 0 56 w (λ n. tt) (mod-one w) (omega arith))
plain_of Ns40Le w z h k = inl (omega arith, free (layout_for Ns40Le) 0 56 _ (λ n. tt) (mod-one _) (omega arith))
plain_of LogTime w z h k = inr (omega arith, free (layout_for LogTime) 16 64 w (λ n. tt) (omega (arith, eqb-true (w / 2 ^ 0 % 2 ^ 16) 0 k)) (omega arith))
plain_of SemiOctet w z h k = inl (
  omega arith,
  record {
    below = mod-one w;
    above = h;
    year = omega arith;
    month = omega arith;
    day = omega arith;
    hour = omega arith;
    minute = omega arith;
    second = omega arith;
  },
)
plain_of Gsm w z h k = absurd (subst T z tt)
