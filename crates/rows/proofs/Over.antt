-- Bytes over a row: in its place where it has as many, and not at all where it has not. Assumes nothing.
use Prim.Native.Nat.{ℕ}
use mathlib.Core.Path.{◌≡◌, ◌∙◌}
use mathlib.Core.List.{List}
use borrow.Author.Tests.{eq-eqb, ne_eqb}
use lib.ListN.{length}
use Rattle.rows.specs.Cells.{over}

pub over_kept : (old bytes : List ℕ) {k : ℕ} → length bytes ≡ k → (length old ≡ k → ⊥) → over old bytes ≡ old
over_kept old bytes l h = rw (ne_eqb (length old) (length bytes) (λ e. h (e ∙ l)))

pub over_placed : (old bytes : List ℕ) {k : ℕ} → length bytes ≡ k → length old ≡ k → over old bytes ≡ bytes
over_placed old bytes l e = rw (l, eq-eqb (length old) _ e)
