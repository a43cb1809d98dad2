-- Proofs of what specs/Loss.antt states: each rule has its law, and a number picks a rule.
use mathlib.Core.Path.{◌≡◌, refl, sym, ◌∙◌, subst}
use mathlib.Core.Bool.{true}
use Prim.Native.Nat.{ℕ, ◌/◌, ◌%◌, ◌^◌, ◌≤◌}
use native.Mathlib.Nat.{div-one}
use native.Mathlib.Omega.{arith}
use lib.IntN.{ℤ}
use mir.Syntax.{w64}
use mir.Val.{SFits, of_z}
use borrow.Author.Tests.{eqb-true}
use Rattle.refusal.specs.Answers.{Answer, gives, refused}
use Rattle.refusal.proofs.Answers.{clash}
use Rattle.signed.proofs.Tests.{and_left, and_right}
use Rattle.instant.specs.declared.instants.Instant.{Instant}
use Rattle.layouts.specs.Layouts.{gsm, layout_for}
use Rattle.layouts.specs.declared.layouts.Layout.{Layout}
use Rattle.layouts.specs.declared.kinds.Kind.{Kind}
use Rattle.layouts.proofs.Promises.{by_zone}
use Rattle.registry.specs.Words.{fields_decode, fields_encode, rule_for, decode_with, encode_with}
use Rattle.registry.specs.declared.rules.Rule.{Rule}
use Rattle.registry.specs.declared.rules.Rule.TheVariants.{Civil, NokiaLe, SqlServer}
use Rattle.loss.specs.Loss.{EveryWordDecodes, LatestOfAll, NearestTick, PlainWordsComeBack, Latest, plain, digits, zero_bits}
use Rattle.registry.specs.Promises.{kind_number, PickedBy}
use Rattle.registry.proofs.Instants.{unzoned}
use Rattle.registry.proofs.RuleNumbers.{every_number}
use Rattle.loss.proofs.Regular.{regular}
use Rattle.loss.proofs.Round.{comes_back}
use Rattle.loss.proofs.Latest.{said}
use Rattle.loss.proofs.Plain.{plain_back}
use Rattle.loss.proofs.CivilLoss.{not_late, none_later, plain_of}
use Rattle.loss.proofs.GsmLoss.{gsm_back, gsm_not_late, gsm_none_later, gsm_plain}
use Rattle.loss.proofs.NokiaLoss.{nokia_decodes, nokia_latest, nokia_plain}
use Rattle.loss.proofs.SqlLoss.{sql_decodes, sql_nearest, sql_plain}

-- ---- 1

fields_decode_lem : (k : Kind) (t : Instant) (w : ℤ) → fields_encode (layout_for k) t ≡ gives w → (u : Instant) × (fields_decode (layout_for k) (of_z w64 w) ≡ gives u)
fields_decode_lem =
    by_zone (λ k. (t : Instant) (w : ℤ) → fields_encode (layout_for k) t ≡ gives w → (u : Instant) × (fields_decode (layout_for k) (of_z w64 w) ≡ gives u))
    (λ t w e. (_, gsm_back t w e))
    (λ k z t w e. (_, unzoned (layout_for k) (of_z w64 w) z ∙ comes_back (layout_for k) (regular k) t w e))

decodes : (a : Answer Rule) (t : Instant) (w : ℤ) → encode_with a t ≡ gives w → (u : Instant) × (decode_with a (of_z w64 w) ≡ gives u)
unfolding rule_for
decodes (gives (Civil k)) t w e = fields_decode_lem k t w e
decodes (gives NokiaLe) t w e = (_, nokia_decodes t w e)
decodes (gives SqlServer) t w e = let d = sql_decodes t w e in (d.instant, d.said)
decodes (refused n) t w e = absurd (clash n w (refused n) refl e)

pub every_word_decodes : EveryWordDecodes
every_word_decodes n t w e = let d = decodes (rule_for n) t w e in record { instant = d.0; said = d.1 }

-- ---- 2

-- what is said is one instant
is_said : (a : Answer Instant) (b u : Instant) → a ≡ gives b → a ≡ gives u → b ≡ u
is_said a b u p q = let e : gives b ≡ gives u = sym p ∙ q in cc

-- the latest of what a layout's words say
abbrev LatestBy : Layout → Instant → Instant → Type 0
LatestBy l t u = Latest (λ v x. fields_decode l (of_z w64 v) ≡ gives x) t u

fields_latest : (k : Kind) (t u : Instant) (w : ℤ) → fields_encode (layout_for k) t ≡ gives w → fields_decode (layout_for k) (of_z w64 w) ≡ gives u → LatestBy (layout_for k) t u
fields_latest =
    by_zone (λ k. (t u : Instant) (w : ℤ) → fields_encode (layout_for k) t ≡ gives w → fields_decode (layout_for k) (of_z w64 w) ≡ gives u → LatestBy (layout_for k) t u)
    (λ t u w e d. subst (LatestBy gsm t) (is_said _ _ u (gsm_back t w e) d) (gsm_not_late t w e, λ v x f s b. gsm_none_later t w e (of_z w64 v) x s b))
    (λ k z t u w e d. let l = layout_for k in let r = regular k in
    subst (LatestBy l t) (is_said _ _ u (unzoned l (of_z w64 w) z ∙ comes_back l r t w e) d)
    (not_late l r t w e, λ v x f s b. none_later l r t w e (of_z w64 v) x (sym (unzoned l (of_z w64 v) z) ∙ s) b))

latest : (n : ℕ) (a : Answer Rule) → PickedBy n a → (t u : Instant) (w : ℤ) → n ≤ 15 → encode_with a t ≡ gives w → decode_with a (of_z w64 w) ≡ gives u
    → Latest (λ v x. decode_with a (of_z w64 v) ≡ gives x) t u
latest n (gives (Civil k)) p t u w h e d = fields_latest k t u w e d
latest n (gives NokiaLe) p t u w h e d = nokia_latest t u w e d
latest n (gives SqlServer) p t u w h e d = absurd (omega (arith, p, h))
latest n (refused k) p t u w h e d = absurd (clash k w (refused k) refl e)

pub latest_of_all : LatestOfAll
latest_of_all n t u w h e d = latest n (rule_for n) (every_number n) t u w h e d

-- ---- 3

pub nearest_tick_lem : NearestTick
unfolding rule_for
nearest_tick_lem = sql_nearest

-- ---- 4

fields_back : (k : Kind) (w : ℤ) (t : Instant) → SFits w64 w → plain (kind_number k) (of_z w64 w) ≡ true → fields_decode (layout_for k) (of_z w64 w) ≡ gives t → fields_encode (layout_for k) t ≡ gives w
fields_back =
    by_zone (λ k. (w : ℤ) (t : Instant) → SFits w64 w → plain (kind_number k) (of_z w64 w) ≡ true → fields_decode (layout_for k) (of_z w64 w) ≡ gives t → fields_encode (layout_for k) t ≡ gives w)
    (λ w t f q d. let v = of_z w64 w in
    let z = eqb-true (v / 2 ^ 0 % 2 ^ 8) 0 (and_left (zero_bits 0 7 v) (digits 14 v) q) in
    gsm_plain w t f (rw (div-one v) at z) (and_right (zero_bits 0 7 v) (digits 14 v) q) d)
    (λ k z w t f q d. let l = layout_for k in
    let s = said l (of_z w64 w) t (sym (unzoned l (of_z w64 w) z) ∙ d) in
    plain_back l (regular k) w f t s (plain_of k (of_z w64 w) z s.below q))

back : (n : ℕ) (a : Answer Rule) → PickedBy n a → (w : ℤ) (t : Instant) → SFits w64 w → plain n (of_z w64 w) ≡ true → decode_with a (of_z w64 w) ≡ gives t
    → encode_with a t ≡ gives w
back n (gives (Civil k)) p w t f q d = fields_back k w t f (subst (λ m. plain m (of_z w64 w) ≡ true) p q) d
back n (gives NokiaLe) p w t f q d = nokia_plain w t f d
back n (gives SqlServer) p w t f q d = sql_plain w t f d
back n (refused k) p w t f q d = absurd (clash k t (refused k) refl d)

pub plain_words_come_back : PlainWordsComeBack
plain_words_come_back n w t f q d = back n (rule_for n) (every_number n) w t f q d
