-- What a word of layout 15 loses. Its count of seconds towards 2050 is the instant's with the bytes reversed, and
-- reversing twice is nothing: so the word keeps the seconds and drops the nanoseconds, and every such word comes back.
use mathlib.Core.Path.{◌≡◌, refl, sym, ap, ◌∙◌}
use mathlib.Core.Bool.{false}
use Prim.Native.Nat.{ℕ, ◌<◌, ◌^◌}
use native.Mathlib.Omega.{arith}
use lib.Dec.{ltb, leb}
use lib.IntN.{ℤ, pos, negsuc, ◌+ℤ◌, ◌-ℤ◌, +ℤ_assoc, +ℤ_idr}
use lib.Signed.{lt_z}
use mir.Syntax.{w64}
use mir.Val.{SFits, of_z}
use borrow.Author.Tests.{lt-ltb, le-ltb, ltb-true}
use Rattle.refusal.specs.Answers.{gives, refused}
use Rattle.refusal.proofs.Answers.{clash, held, given_under}
use Rattle.instant.specs.declared.instants.Instant.{Instant}
use Rattle.byte_orders.specs.Orders.{reversed}
use Rattle.counts.specs.Nokia.{nokia_decode, nokia_word, nokia_encode}
use Rattle.counts.proofs.NokiaSeconds.{reversed_small, counted}
use Rattle.signed.proofs.Promises.{negative_bits}
use Rattle.loss.specs.Loss.{Latest}
use Rattle.byte_orders.proofs.Bytes.{reversed_back}
use Rattle.loss.proofs.Latest.{not_after, whole_not_after}
use Rattle.instant.specs.Instants.{at}

-- ---- seconds and their count

-- as the encoder counts, and as the decoder reads
abbrev count_of : ℤ → ℤ
count_of s = s +ℤ pos 4294967295 -ℤ pos 2524608000

abbrev seconds_at : ℤ → ℤ
seconds_at p = p -ℤ pos 4294967295 +ℤ pos 2524608000

count_is : (s : ℤ) → count_of s ≡ s +ℤ pos 1770359295
count_is s = +ℤ_assoc s (pos 4294967295) (negsuc 2524607999)

seconds_are : (p : ℤ) → seconds_at p ≡ p +ℤ negsuc 1770359294
seconds_are p = +ℤ_assoc p (negsuc 4294967294) (pos 2524608000)

seconds_back : (s : ℤ) → seconds_at (count_of s) ≡ s
seconds_back s = seconds_are (count_of s) ∙ ap (λ z. z +ℤ negsuc 1770359294) (count_is s) ∙ +ℤ_assoc s (pos 1770359295) (negsuc 1770359294) ∙ +ℤ_idr s

count_back : (p : ℤ) → count_of (seconds_at p) ≡ p
count_back p = count_is (seconds_at p) ∙ ap (λ z. z +ℤ pos 1770359295) (seconds_are p) ∙ +ℤ_assoc p (negsuc 1770359294) (pos 1770359295) ∙ +ℤ_idr p

-- ---- what is accepted

-- an instant whose count 32 bits hold, and a word of 32 bits
counts : (z w : ℤ) → nokia_word z ≡ gives w → (p : ℕ) × (z ≡ pos p) × (p < 2 ^ 32) × (w ≡ pos (reversed p))
counts (pos p) w e = let h = held (ltb p (2 ^ 32)) w (pos (reversed p)) 8 (sym e) in (p, refl, ltb-true p (2 ^ 32) h.0, h.1)
counts (negsuc n) w e = absurd (clash 8 w (refused 8) refl e)

said : (n : ℕ) (t : Instant) → nokia_decode n ≡ gives t → (n < 2 ^ 32) × (t ≡ at (seconds_at (pos (reversed n))) 0)
unfolding nokia_decode
said n t e =
    let h = held (ltb n (2 ^ 32)) t (at (seconds_at (pos (reversed n))) 0) 2 (sym e) in
    (ltb-true n (2 ^ 32) h.0, h.1)

-- ---- the three laws

pub nokia_decodes : (t : Instant) (w : ℤ) → nokia_encode t ≡ gives w → nokia_decode (of_z w64 w) ≡ gives (at t.seconds 0)
unfolding nokia_encode
nokia_decodes t w e =
    let g = given_under (leb t.nanos 999999999) (nokia_word (count_of t.seconds)) 9 w e in
    let c = counts (count_of t.seconds) w g.1 in
    let p = c.0 in
    let back : seconds_at (pos (reversed (reversed p))) ≡ t.seconds = ap (λ n. seconds_at (pos n)) (reversed_back p) ∙ ap seconds_at (sym c.1) ∙ seconds_back t.seconds in
    ap (λ z. nokia_decode (of_z w64 z)) c.3 ∙ counted (reversed p) (omega (arith, reversed_small p c.2))
    ∙ (λ i. gives (at (back i) 0))

-- no second is before itself
not_itself : (z : ℤ) → lt_z z z ≡ false
not_itself (pos n) = le-ltb n n (omega arith)
not_itself (negsuc n) = le-ltb n n (omega arith)

pub nokia_latest : (t u : Instant) (w : ℤ) → nokia_encode t ≡ gives w → nokia_decode (of_z w64 w) ≡ gives u → Latest (λ v x. nokia_decode (of_z w64 v) ≡ gives x) t u
nokia_latest t u w e d =
    let a = nokia_decodes t w e in
    let r : u ≡ at t.seconds 0 = cc in
    let s = ap (λ i. i.seconds) r in (
      whole_not_after u t (ap (λ i. i.nanos) r) (rw s (not_itself t.seconds)),
      λ v x f y h.
          let n = ap (λ i. i.nanos) (said (of_z w64 v) x y).1 in
          whole_not_after x u n (rw s (not_after x t n h)),
    )

pub nokia_plain : (w : ℤ) (t : Instant) → SFits w64 w → nokia_decode (of_z w64 w) ≡ gives t → nokia_encode t ≡ gives w
unfolding nokia_encode
nokia_plain (pos n) t f e =
    let h = said n t e in
    ap nokia_encode h.1 ∙ rw (count_back (pos (reversed n)), lt-ltb (reversed n) (2 ^ 32) (reversed_small n h.0), reversed_back n)
nokia_plain (negsuc n) t f e = let h = (said (of_z w64 (negsuc n)) t e).0 in absurd (omega (arith, negative_bits n f))
