-- A text in a buffer where it fits, and one text behind another. Assumes nothing.
use Prim.Native.Nat.{ℕ, ◌+◌, ◌≤◌}
use mathlib.Core.Path.{◌≡◌, sym, ◌∙◌}
use mathlib.Core.List.{List, ◌++◌, append_assoc}
use native.Mathlib.Omega.{arith}
use borrow.Author.Tests.{le-leb}
use lib.ListN.{length, take, drop, length-append, length-drop}
use lib.Seq.{take_at, drop_at, drop-drop, length-take-le}
use Rattle.texts.specs.Buffer.{written}

-- out with text from index at on
abbrev pub pasted : List ℕ → ℕ → List ℕ → List ℕ
pasted out at text = take at out ++ text ++ drop (at + length text) out

module _ (out : List ℕ) (at : ℕ) (text : List ℕ) where
  pub fits : at + length text ≤ length out → written out at text ≡ record { bytes = pasted out at text; next = at + length text }
  unfolding written
  fits h = simp (le-leb (at + length text) (length out) h)

-- two texts put one behind the other are both put at once
module _ (out : List ℕ) (at : ℕ) (a b : List ℕ) (h : at + length (a ++ b) ≤ length out) where
  both : at + length a + length b ≡ at + length (a ++ b)
  both = omega (arith, length-append a b)

  head : length (take at out ++ a) ≡ at + length a
  head = omega (arith, length-append (take at out) a, length-take-le at out (omega arith))

  whole : length (pasted out at a) ≡ length out
  whole =
      omega (arith, length-append (take at out ++ a) (drop (at + length a) out), head, length-drop (at + length a) out, both)

  joined : pasted (pasted out at a) (at + length a) b ≡ pasted out at (a ++ b)
  joined =
      rw (
        take_at (take at out ++ a) (drop (at + length a) out) (at + length a) head,
        ← drop-drop (length b) (at + length a) (pasted out at a),
        drop_at (take at out ++ a) (drop (at + length a) out) (at + length a) head,
        drop-drop (length b) (at + length a) out,
        both,
        append_assoc (take at out) a b,
      )

  pub follows : written (written out at a).bytes (written out at a).next b ≡ written out at (a ++ b)
  follows =
      rw (fits out at a (omega (arith, both)))
      (fits (pasted out at a) (at + length a) b (rw whole (omega (arith, both)))
      ∙ (λ i. record { bytes = joined i; next = both i })
      ∙ sym (fits out at (a ++ b) h))
