-- An answer that is handed over: lent bytes that are no row, a value, and a refusal. One law each, for instants and words. Assumes
-- nothing.
use Prim.Native.Nat.{ℕ}
use mathlib.Core.Path.{◌≡◌, refl, ◌∙◌}
use mathlib.Core.List.{List}
use borrow.Author.Tests.{eq-eqb, ne_eqb}
use lib.ListN.{length}
use Rattle.refusal.specs.Answers.{Answer, gives, refused}
use Rattle.rows.specs.Cells.{over}
use Rattle.rows.proofs.Over.{over_placed}
use Rattle.sleetrick.specs.Numbers.{tells}
use Rattle.sleetrick.specs.Calls.{handed, in_row}

module _ {A : Type 0} (bytes : A → List ℕ) (w : ℕ) (wide : (x : A) → length (bytes x) ≡ w) (old : List ℕ) where
  -- what a call has to leave for an answer
  abbrev pub Leaves : Answer A → ℕ → List ℕ → Type 0
  Leaves answer number out = (number ≡ (handed bytes old (in_row w old answer)).number) × (out ≡ (handed bytes old (in_row w old answer)).bytes)

  pub no_row : (answer : Answer A) {number : ℕ} → (length old ≡ w → ⊥) → number ≡ tells 0 0 11 → Leaves answer number old
  no_row answer h e = rw (ne_eqb (length old) w h) (e, refl)

  pub value : {answer : Answer A} {x : A} {out : List ℕ} → length old ≡ w → answer ≡ gives x → out ≡ over old (bytes x) → Leaves answer 0 out
  value {x = x} l e f = rw (e, eq-eqb (length old) w l) (refl, f ∙ over_placed old (bytes x) (wide x) l)

  pub refusal : {answer : Answer A} {n number : ℕ} → length old ≡ w → answer ≡ refused n → number ≡ tells 0 0 n → Leaves answer number old
  refusal l e f = rw (e, eq-eqb (length old) w l) (f, refl)
