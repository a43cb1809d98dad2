-- What layout 14 loses: its encoder writes zone 0, and words of every other zone say whole seconds too.
use mathlib.Core.Path.{◌≡◌, refl, sym, ◌∙◌, ap, subst}
use mathlib.Core.Bool.{true}
use mathlib.Core.Logic.{inl}
use Prim.Native.Nat.{ℕ, zero, suc, ◌+◌, ◌*◌, ◌/◌, ◌%◌, ◌^◌, ◌≤◌, ◌<◌}
use native.Mathlib.Nat.{div-one, mul-one, mul-mod_left, zero-add}
use native.Mathlib.Omega.{arith}
use lib.Dec.{leb}
use lib.IntN.{ℤ, ◌-ℤ◌, +ℤ_idr}
use lib.Pow.{shr-shr}
use mir.Syntax.{w64}
use mir.Val.{SFits, of_z}
use borrow.Author.Tests.{leb-true}
use Rattle.refusal.specs.Answers.{Answer, gives, refused}
use Rattle.refusal.proofs.Answers.{clash, given_under}
use Rattle.signed.proofs.Tests.{and_left, and_right}
use Rattle.instant.specs.declared.instants.Instant.{Instant}
use Rattle.day_time.specs.Times.{seconds_of}
use Rattle.day_time.specs.Promises.{with_second}
use Rattle.byte_orders.specs.Orders.{ordered}
use Rattle.layouts.specs.Layouts.{gsm}
use Rattle.layouts.specs.declared.layouts.Digits.TheVariants.{SemiOctets}
use Rattle.layouts.specs.declared.kinds.Kind.TheVariants.{Gsm}
use Rattle.registry.specs.Words.{local_decode, fields_decode, fields_encode, zone_seconds, less_zone, then_zone}
use Rattle.loss.specs.Loss.{NotAfter, digits}
use Rattle.loss.proofs.Chain.{multiple}
use Rattle.loss.proofs.Regular.{regular}
use Rattle.loss.proofs.Trip.{down_list, down_chain, down_sum}
use Rattle.loss.proofs.Round.{packing, accepted, time, comes_back}
use Rattle.loss.proofs.Latest.{not_after, whole_not_after, said}
use Rattle.loss.proofs.Plain.{Decent, PlainWord, plain_back}
use Rattle.loss.proofs.CivilLoss.{answer, not_late, second_of}
use Rattle.instant.specs.Instants.{at}

-- ---- zones

zone_zero : (x : Instant) → less_zone 0 x ≡ gives x
unfolding less_zone
zone_zero x = rw (+ℤ_idr x.seconds)

-- a word that says an instant says a local one, and its zone takes it there
local_of : (z : ℕ) (a : Answer Instant) (x : Instant) → then_zone true z a ≡ gives x → (y : Instant) × (a ≡ gives y) × (less_zone z y ≡ gives x)
local_of z (gives y) x e = (y, refl, e)
local_of z (refused n) x e = absurd (clash n x (refused n) refl e)

-- a zone moves an instant by whole seconds
same_nanos : (z : ℕ) (y x : Instant) → less_zone z y ≡ gives x → x.nanos ≡ y.nanos
unfolding less_zone
same_nanos z y x e =
    let m : at (y.seconds -ℤ zone_seconds z) y.nanos ≡ x = given (given_under (leb (z / 16) 9) (gives (at (y.seconds -ℤ zone_seconds z) y.nanos)) 4 x e).1 in
    sym (ap (λ i. i.nanos) m)
  where
    given : {a b : Instant} → gives a ≡ gives b → a ≡ b
    given e = cc

whole_second : (v : ℕ) (x : Instant) → fields_decode gsm v ≡ gives x → x.nanos ≡ 0
unfolding fields_decode
whole_second v x e =
    let a = local_of (v % 2 ^ 8) (local_decode gsm v) x e in
    same_nanos (v % 2 ^ 8) a.0 x a.2 ∙ (said gsm v a.0 a.1).nanos

-- ---- there and back

module _ (t : Instant) (w : ℤ) (e : fields_encode gsm t ≡ gives w) where
  abbrev there : Instant
  there = answer gsm (regular Gsm) t w e

  zone_byte : of_z w64 w % 2 ^ 8 ≡ 0
  unfolding ordered
  zone_byte =
      let c = time gsm (regular Gsm) t w e in
      let p = packing gsm (regular Gsm) t w e in
      let s = down_sum gsm (regular Gsm) _ c p in
      let m = multiple 2 8 (down_list gsm (regular Gsm) _ c p) (down_chain gsm (regular Gsm) _ c p (omega arith)) in
      rw (← (accepted gsm (regular Gsm) t w e).word, ← s, m.1, zero-add (m.0 * 2 ^ 8)) (mul-mod_left m.0 (2 ^ 8))

  pub gsm_back : fields_decode gsm (of_z w64 w) ≡ gives there
  unfolding fields_decode
  gsm_back = rw (zone_byte, comes_back gsm (regular Gsm) t w e) (zone_zero there)

  same_second : there.seconds ≡ t.seconds
  same_second =
      let c = time gsm (regular Gsm) t w e in
      ap (λ n. seconds_of (with_second c n)) (mul-one (c.second / 1) ∙ div-one c.second) ∙ second_of gsm (regular Gsm) t w e

  pub gsm_not_late : NotAfter there t
  gsm_not_late = not_late gsm (regular Gsm) t w e

  pub gsm_none_later : (v : ℕ) (x : Instant) → fields_decode gsm v ≡ gives x → NotAfter x t → NotAfter x there
  gsm_none_later v x h b =
      let z = whole_second v x h in
      whole_not_after x there z (rw same_second (not_after x t z b))

-- ---- plain words

digit_at : (k i w : ℕ) → digits k w ≡ true → i < k → w / 2 ^ (4 * i) % 16 ≤ 9
unfolding digits
digit_at zero i w d h = omega arith
digit_at (suc k) zero w d h = rw (div-one w) (leb-true (w % 16) 9 (and_left (leb (w % 16) 9) (digits k (w / 16)) d))
digit_at (suc k) (suc i) w d h =
    let r = digit_at k i (w / 16) (and_right (leb (w % 16) 9) (digits k (w / 16)) d) (omega arith) in
    let e : 4 * suc i ≡ 4 + 4 * i = omega arith in
    rw (e, ← shr-shr w 4 (4 * i)) r

-- a byte whose two nibbles are digits
decent : (v i : ℕ) → v / 2 ^ (4 * i) % 16 ≤ 9 → v / 2 ^ (4 * i + 4) % 16 ≤ 9 → Decent SemiOctets (v / 2 ^ (4 * i) % 2 ^ 8)
decent v i lo hi = let s = shr-shr v (4 * i) 4 in (omega arith, omega arith)

plain_digits : (v : ℕ) → v < 2 ^ 56 → v % 2 ^ 8 ≡ 0 → digits 14 v ≡ true → PlainWord gsm 8 56 v
plain_digits v h z d = record {
  below = z;
  above = h;
  second = byte_at 2 (omega arith);
  minute = byte_at 4 (omega arith);
  hour = byte_at 6 (omega arith);
  day = byte_at 8 (omega arith);
  month = byte_at 10 (omega arith);
  year = byte_at 12 (omega arith);
}
  where
    byte_at : (i : ℕ) → i + 1 < 14 → Decent SemiOctets (v / 2 ^ (4 * i) % 2 ^ 8)
    byte_at i l =
        let e : 4 * (i + 1) ≡ 4 * i + 4 = omega arith in
        decent v i (digit_at 14 i v d (omega arith)) (subst (λ n. v / 2 ^ n % 16 ≤ 9) e (digit_at 14 (i + 1) v d l))

pub gsm_plain : (w : ℤ) (t : Instant) → SFits w64 w → of_z w64 w % 2 ^ 8 ≡ 0 → digits 14 (of_z w64 w) ≡ true → fields_decode gsm (of_z w64 w) ≡ gives t
    → fields_encode gsm t ≡ gives w
unfolding fields_decode ordered
gsm_plain w t f z d e =
    let v = of_z w64 w in
    let a = local_of (v % 2 ^ 8) (local_decode gsm v) t e in
    let same : gives a.0 ≡ gives t = sym (zone_zero a.0) ∙ ap (λ n. less_zone n a.0) (sym z) ∙ a.2 in
    let s = said gsm v t (a.1 ∙ same) in
    plain_back gsm (regular Gsm) w f t s (inl (omega arith, plain_digits v s.below z d))
