-- The sixteen tests of the layout number, walked once: a number is a rule's, or it is outside 1 to 16 and refused under 1. What
-- others ask of a number follows from that. Assumes nothing.
use mathlib.Core.Path.{◌≡◌, refl, sym, ap, subst}
use mathlib.Core.Bool.{Bool, true, false, cond}
use mathlib.Core.Logic.{◌⊎◌, inl, inr, ⊎_elim}
use Prim.Native.Nat.{ℕ, suc, ◌≤◌, ◌<◌}
use native.Mathlib.Omega.{arith}
use native.Mathlib.Decide.{dec_lt}
use lib.Dec.{eqb}
use borrow.Author.Tests.{eqb-true, eqb-false}
use Rattle.refusal.specs.Answers.{Answer, gives, refused}
use Rattle.registry.specs.Words.{rule_for}
use Rattle.registry.specs.Promises.{kind_number, rule_number, PickedBy, EveryNumber}
use Rattle.layouts.specs.declared.kinds.Kind.{Kind}
use Rattle.layouts.specs.declared.kinds.Kind.TheVariants.{FatDos, ExFat, Dttm, BitDate, BitDec, Bcd, Moto, Symantec, Dvr, Ns40, Ns40Le, LogTime, SemiOctet, Gsm}
use Rattle.registry.specs.declared.rules.Rule.{Rule}
use Rattle.registry.specs.declared.rules.Rule.TheVariants.{Civil, NokiaLe, SqlServer}

-- ---- the walk

-- a number that the tests before k have left over
abbrev Left : ℕ → ℕ → Type 0
Left n k = (n ≡ 0) ⊎ (k ≤ n)

left_more : (n k : ℕ) → (n ≡ k → ⊥) → Left n k → Left n (suc k)
left_more n k h m = ⊎_elim (λ e. inl e) (λ l. inr (omega (arith, h))) m

or_else : (n k : ℕ) (r : Rule) (a : Answer Rule) → rule_number r ≡ k → Left n k → (Left n (suc k) → PickedBy n a) → PickedBy n (cond (eqb n k) (gives r) a)
or_else n k r a is m further = go (eqb n k) refl
  where
    go : (b : Bool) → eqb n k ≡ b → PickedBy n (cond b (gives r) a)
    go true e = subst (λ j. n ≡ j) (sym is) (eqb-true n k e)
    go false e = further (left_more n k (eqb-false n k e) m)

left_first : (n : ℕ) → Left n 1
left_first n = go (dec_lt 0 n)
  where
    go : Dec (0 < n) → Left n 1
    go (yes h) = inr (omega arith)
    go (no h) = inl (omega arith)

ended : (n : ℕ) → Left n 17 → PickedBy n (refused 1)
ended n m = (refl, ⊎_elim (λ e. inl e) (λ l. inr (omega arith)) m)

pub every_number : EveryNumber
unfolding rule_for
every_number n =
    let first = left_first n in
    or_else n 1 (Civil FatDos) _ refl first (λ m.
    or_else n 2 (Civil ExFat) _ refl m (λ m.
    or_else n 3 (Civil Dttm) _ refl m (λ m.
    or_else n 4 (Civil BitDate) _ refl m (λ m.
    or_else n 5 (Civil BitDec) _ refl m (λ m.
    or_else n 6 (Civil Bcd) _ refl m (λ m.
    or_else n 7 (Civil Moto) _ refl m (λ m.
    or_else n 8 (Civil Symantec) _ refl m (λ m.
    or_else n 9 (Civil Dvr) _ refl m (λ m.
    or_else n 10 (Civil Ns40) _ refl m (λ m.
    or_else n 11 (Civil Ns40Le) _ refl m (λ m.
    or_else n 12 (Civil LogTime) _ refl m (λ m.
    or_else n 13 (Civil SemiOctet) _ refl m (λ m.
    or_else n 14 (Civil Gsm) _ refl m (λ m.
    or_else n 15 NokiaLe _ refl m (λ m.
    or_else n 16 SqlServer _ refl m (λ m.
    ended n m))))))))))))))))

-- ---- what follows

kind_range : (k : Kind) → (1 ≤ kind_number k) × (kind_number k ≤ 14)
kind_range FatDos = (omega arith, omega arith)
kind_range ExFat = (omega arith, omega arith)
kind_range Dttm = (omega arith, omega arith)
kind_range BitDate = (omega arith, omega arith)
kind_range BitDec = (omega arith, omega arith)
kind_range Bcd = (omega arith, omega arith)
kind_range Moto = (omega arith, omega arith)
kind_range Symantec = (omega arith, omega arith)
kind_range Dvr = (omega arith, omega arith)
kind_range Ns40 = (omega arith, omega arith)
kind_range Ns40Le = (omega arith, omega arith)
kind_range LogTime = (omega arith, omega arith)
kind_range SemiOctet = (omega arith, omega arith)
kind_range Gsm = (omega arith, omega arith)

rule_range : (r : Rule) → (1 ≤ rule_number r) × (rule_number r ≤ 16)
rule_range (Civil k) = let h = kind_range k in (h.0, omega (arith, h.1))
rule_range NokiaLe = (omega arith, omega arith)
rule_range SqlServer = (omega arith, omega arith)

-- a number outside 1 to 16 is refused under 1
pub outside_rules : (n : ℕ) → (n ≡ 0) ⊎ (16 < n) → rule_for n ≡ refused 1
outside_rules n m = go (rule_for n) (every_number n)
  where
    go : (x : Answer Rule) → PickedBy n x → x ≡ refused 1
    go (gives r) e = let h = rule_range r in absurd (⊎_elim (λ z. omega (arith, h.0)) (λ l. omega (arith, h.1)) m)
    go (refused k) e = ap refused e.0

-- and each of them picks a rule
pub inside_rules : (n : ℕ) → 1 ≤ n → n ≤ 16 → (r : Rule) × (rule_for n ≡ gives r)
inside_rules n l h = go (rule_for n) (every_number n) refl
  where
    go : (x : Answer Rule) → PickedBy n x → rule_for n ≡ x → (r : Rule) × (rule_for n ≡ gives r)
    go (gives r) p e = (r, e)
    go (refused k) p e = absurd (⊎_elim (λ z. omega arith) (λ m. omega arith) p.1)
