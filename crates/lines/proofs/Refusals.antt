-- Numbers that are refused as they stand in a line: a layout that no rule has, and nanoseconds above 999,999,999, which every
-- rule's encoder looks at first. Assumes nothing.
use Prim.Native.Nat.{ℕ, ◌≤◌, ◌<◌}
use mathlib.Core.Path.{◌≡◌, refl, sym, subst}
use mathlib.Core.Bool.{Bool, true, false, cond, ◌||◌}
use mathlib.Core.Logic.{inl, inr}
use native.Mathlib.Omega.{arith}
use borrow.Author.Tests.{ltb-true, ltb-false}
use lib.Dec.{T, ltb}
use lib.IntN.{ℤ, pos, negsuc}
use Rattle.refusal.specs.Answers.{refused}
use Rattle.instant.specs.declared.instants.Instant.{Instant}
use Rattle.registry.specs.Words.{rule_for, encode_for}
use Rattle.registry.proofs.RuleNumbers.{outside_rules, inside_rules}
use Rattle.registry.proofs.Refusals.{nanos_first}
use Rattle.lines.specs.Questions.{narrowed}
use Rattle.lines.specs.Answers.{instant_asked}
use Rattle.lines.specs.Promises.{outside}

-- a number outside 1 to 16 has no rule
no_number : (n : ℕ) (low high : Bool) → ltb n 1 ≡ low → ltb 16 n ≡ high → low || high ≡ true → rule_for n ≡ refused 1
no_number n true high e f h = outside_rules n (inl (omega (arith, ltb-true n 1 e)))
no_number n false true e f h = outside_rules n (inr (ltb-true 16 n f))
no_number n false false e f h = absurd (subst T (sym h) tt)

no_rule_narrowed : (n : ℕ) (wide : Bool) → rule_for n ≡ refused 1 → rule_for (cond wide 0 n) ≡ refused 1
unfolding rule_for
no_rule_narrowed n true e = refl
no_rule_narrowed n false e = e

pub no_rule : (layout : ℤ) → outside 1 16 layout ≡ true → rule_for (narrowed layout 0) ≡ refused 1
unfolding narrowed rule_for
no_rule (pos n) h = no_rule_narrowed n (ltb 4294967295 n) (no_number n (ltb n 1) (ltb 16 n) refl refl h)
no_rule (negsuc n) h = refl

-- one from 1 to 16 has a rule, and every rule refuses too many nanoseconds
nine_inside : (n : ℕ) (t : Instant) → 999999999 < t.nanos → 1 ≤ n → n ≤ 16 → encode_for n t ≡ refused 9
nine_inside n t h l m = let r = inside_rules n l m in rw r.1 (nanos_first r.0 t h)

-- a LAYOUT from 1 to 16 is handed on as it is, and NANOS outside are handed on as too many
same_layout : (n : ℕ) (low high wide : Bool) → ltb n 1 ≡ low → ltb 16 n ≡ high → ltb 4294967295 n ≡ wide → low || high ≡ false
    → (1 ≤ cond wide 0 n) × (cond wide 0 n ≤ 16)
same_layout n true high wide e f g h = absurd (subst T h tt)
same_layout n false true wide e f g h = absurd (subst T h tt)
same_layout n false false true e f g h = absurd (omega (arith, ltb-true 4294967295 n g, ltb-false 16 n f))
same_layout n false false false e f g h = (ltb-false n 1 e, ltb-false 16 n f)

inside : (layout : ℤ) → outside 1 16 layout ≡ false → (1 ≤ narrowed layout 0) × (narrowed layout 0 ≤ 16)
unfolding narrowed
inside (pos n) h = same_layout n (ltb n 1) (ltb 16 n) (ltb 4294967295 n) refl refl refl h
inside (negsuc n) h = absurd (subst T h tt)

too_many : (n : ℕ) (low high wide : Bool) → ltb n 0 ≡ low → ltb 999999999 n ≡ high → ltb 4294967295 n ≡ wide → low || high ≡ true
    → 999999999 < cond wide 4294967295 n
too_many n low high true e f g h = omega arith
too_many n true high false e f g h = absurd (omega (arith, ltb-true n 0 e))
too_many n false true false e f g h = ltb-true 999999999 n f
too_many n false false false e f g h = absurd (subst T (sym h) tt)

too_many_nanos : (nanos : ℤ) → outside 0 999999999 nanos ≡ true → 999999999 < narrowed nanos 4294967295
unfolding narrowed
too_many_nanos (pos n) h = too_many n (ltb n 0) (ltb 999999999 n) (ltb 4294967295 n) refl refl refl h
too_many_nanos (negsuc n) h = omega arith

pub nine : (layout seconds nanos : ℤ) → outside 1 16 layout ≡ false → outside 0 999999999 nanos ≡ true
    → encode_for (narrowed layout 0) (instant_asked seconds nanos) ≡ refused 9
nine layout seconds nanos h k =
    let l = inside layout h in
    nine_inside (narrowed layout 0) (instant_asked seconds nanos) (too_many_nanos nanos k) l.0 l.1
