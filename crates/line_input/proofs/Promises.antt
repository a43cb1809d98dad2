-- The promises of specs/Promises. A byte that is held is the line's next, and one that is dropped stands past the room.
-- Assumes nothing.
use Prim.Native.Nat.{ℕ, ◌≤◌}
use mathlib.Core.Path.{◌≡◌, refl, sym, ap, ◌∙◌}
use mathlib.Core.Bool.{Bool, true, false}
use mathlib.Core.List.{List, [], ◌∷◌, ◌++◌, append-nil}
use native.Mathlib.Omega.{arith}
use native.Mathlib.Numerals.{add-one}
use borrow.Author.Tests.{ltb-true, ltb-false}
use lib.Dec.{ltb}
use lib.ListN.{length, take, length-set}
use lib.Seq.{take-suc-set, take_all, take_at, length-take-le, append_snoc}
use Rattle.line_input.specs.Held.{Kept, line_in, kept, kept_all}
use Rattle.line_input.specs.Promises.{FirstBytes, OneAnswer}

-- a byte more, by whether there is room for it
abbrev Grows : Kept → ℕ → List ℕ → Type 0
Grows h b bs =
    ((kept h b).count ≤ length (kept h b).bytes) × (length (kept h b).bytes ≡ length h.bytes)
    × (take (length h.bytes) (line_in (kept h b) ++ bs) ≡ take (length h.bytes) (line_in h ++ (b ∷ bs)))

grows : (h : Kept) (b : ℕ) (bs : List ℕ) (t : Bool) → ltb h.count (length h.bytes) ≡ t → h.count ≤ length h.bytes
    → Grows h b bs
unfolding kept
grows h b bs true e l =
    let g = ltb-true h.count (length h.bytes) e in
    simp e (
      rw (length-set h.bytes h.count b) (omega arith),
      length-set h.bytes h.count b,
      rw (add-one h.count, take-suc-set h.bytes h.count b g, append_snoc (take h.count h.bytes) b bs),
    )
grows h b bs false e l =
    let g = ltb-false h.count (length h.bytes) e in
    let n : length (line_in h) ≡ length h.bytes = length-take-le h.count h.bytes l ∙ omega arith in
    simp e (
      l,
      refl,
      take_at (line_in h) bs (length h.bytes) n ∙ sym (take_at (line_in h) (b ∷ bs) (length h.bytes) n),
    )

pub first_bytes : FirstBytes
unfolding kept_all
first_bytes h [] l =
    sym (rw (append-nil (line_in h)) (take_all (length h.bytes) (line_in h) (omega (arith, length-take-le h.count h.bytes l))))
first_bytes h (b ∷ bs) l =
    let g = grows h b bs (ltb h.count (length h.bytes)) refl l in
    first_bytes (kept h b) bs g.0 ∙ rw g.1 g.2

pub one_answer : OneAnswer
one_answer h input from r s bytes others p q =
    let held = p.keeps ∙ sym q.keeps in (
      (λ i. record {
        held = (held i).count;
        next = (p.next ∙ sym q.next) i;
        whole = (p.whole ∙ sym q.whole) i;
      }),
      ap (λ (k : Kept). k.bytes) held,
    )
