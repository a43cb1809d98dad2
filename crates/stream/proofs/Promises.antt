-- The promises of specs/Promises. The bytes that are held are the line so far, or the line is too long and so are they:
-- either way they are answered as the line is. Assumes nothing.
use Prim.Native.Nat.{ℕ, suc, ◌-◌, ◌≤◌}
use mathlib.Core.Path.{◌≡◌, refl, sym, ap, ◌∙◌}
use mathlib.Core.Bool.{Bool, true, false, cond}
use mathlib.Core.List.{List, [], ◌∷◌, ◌++◌, append_assoc, append-nil}
use native.Mathlib.Omega.{arith}
use native.Mathlib.Numerals.{add-one}
use borrow.Author.Tests.{lt-ltb, ne_eqb, ltb-true, ltb-false, le-leb}
use lib.Dec.{eqb, ltb, leb}
use lib.ListN.{length, take, drop, length-append, length-set}
use lib.Seq.{length-take-le, take-suc-set}
use Rattle.line_input.specs.Held.{Kept, holds, line_in, kept}
use Rattle.lines.specs.Questions.{question_of}
use Rattle.lines.specs.Answers.{bad_line, asked_text, line_text}
use Rattle.stream.specs.Stream.{After, after_byte, after_bytes, taken, last_text}
use Rattle.stream.specs.Promises.{lines_behind, answers_to, output_of, in_blocks, joined, whole, AnyBlocks, Progress, OneAnswer}
use Rattle.stream.proofs.Feeding.{in_parts}

-- blocks leave what their bytes as one input leave
as_one : (h : Kept) (blocks : List (List ℕ)) → in_blocks h blocks ≡ after_bytes h (joined blocks)
unfolding in_blocks joined after_bytes
as_one h [] = refl
as_one h (block ∷ blocks) = rw (as_one (after_bytes h block).held blocks) (sym (in_parts h block (joined blocks)))

-- what is held of a line: all of it, or 65 bytes of a line that has as many or more
data Held (bytes : List ℕ) (n : ℕ) (line : List ℕ) : Type 0 where
  all_of_it : take n bytes ≡ line → n ≤ 65 → Held bytes n line
  too_long : n ≡ 65 → 65 ≤ length line → Held bytes n line

-- a line of 65 bytes or more is bad
bad : (line : List ℕ) → 65 ≤ length line → line_text line ≡ bad_line ++ (10 ∷ [])
unfolding line_text question_of asked_text
bad line h = simp (lt-ltb 64 (length line) (omega arith))

module _ {bytes : List ℕ} {n : ℕ} {line : List ℕ} (room : length bytes ≡ 65) where
  same_text : Held bytes n line → line_text (take n bytes) ≡ line_text line
  same_text (all_of_it e h) = ap line_text e
  same_text (too_long e h) =
      bad (take n bytes) (omega (arith, length-take-le n bytes (omega arith))) ∙ sym (bad line h)

  same_count : Held bytes n line → eqb n 0 ≡ eqb (length line) 0
  same_count (all_of_it e h) = ap (λ (k : ℕ). eqb k 0) (sym (length-take-le n bytes (omega arith)) ∙ ap length e)
  same_count (too_long e h) = ne_eqb n 0 (λ z. omega arith) ∙ sym (ne_eqb (length line) 0 (λ z. omega arith))

-- another byte of the line
longer : {bytes : List ℕ} {n : ℕ} {line : List ℕ} (b : ℕ) (t : Bool) → ltb n (length bytes) ≡ t → length bytes ≡ 65
    → Held bytes n line
    → Held (kept (holds bytes n) b).bytes (kept (holds bytes n) b).count (line ++ (b ∷ [])) × (length (kept (holds bytes n) b).bytes ≡ 65)
unfolding kept
longer {bytes} {n} {line} b true e room (all_of_it f h) =
    let l = ltb-true n (length bytes) e in
    simp e (all_of_it (rw (add-one n, take-suc-set bytes n b l, f)) (omega arith), length-set bytes n b ∙ room)
longer {bytes} {n} {line} b true e room (too_long f h) = absurd (omega (arith, ltb-true n (length bytes) e))
longer {bytes} {n} {line} b false e room (all_of_it f h) =
    let l = ltb-false n (length bytes) e in
    let k : length line ≡ n = ap length (sym f) ∙ length-take-le n bytes (omega arith) in
    simp e (too_long (omega arith) (omega (arith, length-append line (b ∷ []))), room)
longer {bytes} {n} {line} b false e room (too_long f h) =
    simp e (too_long f (omega (arith, length-append line (b ∷ []))), room)

-- from any point of the input on
abbrev FromHere : List ℕ → Type 0
FromHere input =
    (bytes : List ℕ) (n : ℕ) (line : List ℕ) → length bytes ≡ 65 → Held bytes n line
    → whole (after_bytes (holds bytes n) input) ≡ answers_to (lines_behind line input)

at_end_lem : (t : Bool) (line : List ℕ) → cond t [] (line_text line) ≡ answers_to (cond t [] (line ∷ []))
unfolding answers_to
at_end_lem true line = refl
at_end_lem false line = sym (append-nil (line_text line))

byte_end : (h : Kept) (b : ℕ) → eqb b 10 ≡ true → after_byte h b ≡ record { text = line_text (line_in h); held = holds h.bytes 0 }
unfolding after_byte
byte_end h b e = simp e

byte_more : (h : Kept) (b : ℕ) → eqb b 10 ≡ false → after_byte h b ≡ record { text = []; held = kept h b }
unfolding after_byte
byte_more h b e = simp e

at_byte : (b : ℕ) (input : List ℕ) (t : Bool) → eqb b 10 ≡ t → FromHere input → FromHere (b ∷ input)
unfolding after_bytes lines_behind answers_to
at_byte b input true e rest bytes n line room held =
    rw (byte_end (holds bytes n) b e, e)
    (append_assoc (line_text (take n bytes)) (after_bytes (holds bytes 0) input).text (last_text (after_bytes (holds bytes 0) input).held)
    ∙ rw (same_text room held, rest bytes 0 [] room (all_of_it refl (omega arith))))
at_byte b input false e rest bytes n line room held =
    let l = longer b (ltb n (length bytes)) refl room held in
    rw (byte_more (holds bytes n) b e, e) (rest _ _ _ l.1 l.0)

from_here : (input : List ℕ) → FromHere input
unfolding after_bytes last_text lines_behind
from_here [] bytes n line room held = rw (same_text room held, same_count room held) (at_end_lem (eqb (length line) 0) line)
from_here (b ∷ input) bytes n line room held = at_byte b input (eqb b 10) refl (from_here input) bytes n line room held

pub any_blocks : AnyBlocks
unfolding output_of
any_blocks bytes blocks room =
    rw (as_one (holds bytes 0) blocks) (from_here (joined blocks) bytes 0 [] room (all_of_it refl (omega arith)))

-- a block's bytes are all that can be taken of it
some_of : (t : Bool) (k n : ℕ) → k ≤ n → cond t (suc k) 0 ≤ suc n
some_of true k n l = omega arith
some_of false k n l = omega arith

no_more : (h : Kept) (block : List ℕ) (room : ℕ) → taken h block room ≤ length block
unfolding taken
no_more h [] room = omega arith
no_more h (b ∷ bs) room = some_of (leb 48 room) _ (length bs) (no_more (after_byte h b).held bs (room - length (after_byte h b).text))

pub progress : Progress
unfolding taken
progress h [] room l some = absurd (omega arith)
progress h (b ∷ bs) room l some = (simp (le-leb 48 room l) (omega arith), no_more h (b ∷ bs) room)

pub one_answer : OneAnswer
one_answer h block out r s bytes others new other p q =
    let taking = p.took ∙ sym q.took in
    let after : after_bytes h (take r.taken block) ≡ after_bytes h (take s.taken block) = ap (λ (k : ℕ). after_bytes h (take k block)) taking in
    let held = p.keeps ∙ ap (λ (a : After). a.held) after ∙ sym q.keeps in
    let wrote = p.wrote ∙ ap (λ (a : After). length a.text) after ∙ sym q.wrote in (
      (λ i. record { taken = taking i; held = (held i).count; wrote = wrote i }),
      ap (λ (k : Kept). k.bytes) held,
      p.text ∙ (λ i. (after i).text ++ drop (wrote i) out) ∙ sym q.text,
    )
