-- Texts that are put one behind another, and how long an answer is. Assumes nothing.
use Prim.Native.Nat.{ℕ, ◌+◌, ◌≤◌, ◌<◌}
use mathlib.Core.Path.{◌≡◌, refl, ◌∙◌}
use mathlib.Core.Bool.{Bool, true, false, cond}
use mathlib.Core.List.{List, [], ◌++◌, append-nil}
use native.Mathlib.Omega.{arith}
use native.Mathlib.Nat.{add-zero}
use borrow.Author.Tests.{le-leb, lt-leb}
use lib.Dec.{leb}
use lib.IntN.{ℤ, pos}
use lib.ListN.{length, length-append, take-append-drop}
use Rattle.std.specs.Prelude.{Option, Some, None}
use Rattle.refusal.specs.Answers.{Answer, gives, refused}
use Rattle.instant.specs.declared.instants.Instant.{Instant}
use Rattle.texts.specs.Buffer.{Written, written}
use Rattle.texts.proofs.Putting.{fits, follows}
use Rattle.decimal.proofs.Writing.{length_int}
use Rattle.lines.specs.Questions.{question_of}
use Rattle.lines.specs.Answers.{bad_line, refused_text, instant_text, decoded_text, encoded_text, answer_text, asked_text, line_text, in_room}
use Rattle.lines.specs.declared.questions.Question.{Question}
use Rattle.lines.specs.declared.questions.Question.TheVariants as question

-- what a call leaves that put a text: the index behind it, and the buffer
abbrev pub Puts : List ℕ → ℕ → List ℕ → ℕ → List ℕ → Type 0
Puts out at text next new = (next ≡ (written out at text).next) × (new ≡ (written out at text).bytes)

-- a text put behind another
pub puts_then : (out : List ℕ) (at : ℕ) (a b : List ℕ) {mid new : List ℕ} {to next : ℕ} → at + length (a ++ b) ≤ length out
    → Puts out at a to mid → Puts mid to b next new → Puts out at (a ++ b) next new
puts_then out at a b h p q = rw (← follows out at a b h) (rw (p.0, p.1) at q)

-- no text leaves the buffer as it is
written_nothing : (out : List ℕ) (at : ℕ) → at ≤ length out → written out at [] ≡ record { bytes = out; next = at }
written_nothing out at h = fits out at [] (omega arith) ∙ rw (add-zero at, append-nil, take-append-drop at out)

pub nothing_put : (out : List ℕ) (at : ℕ) → at ≤ length out → Puts out at [] at out
nothing_put out at h = rw (written_nothing out at h) (refl, refl)

-- a text is placed where there is room for any
pub in_room_lem : (out : List ℕ) (at : ℕ) (text : List ℕ) → at + 48 ≤ length out → in_room out at text ≡ written out at text
unfolding in_room
in_room_lem out at text h = simp (le-leb (at + 48) (length out) h)

pub no_room : (out : List ℕ) (at : ℕ) (text : List ℕ) → length out < at + 48
    → in_room out at text ≡ record { bytes = out; next = at }
unfolding in_room
no_room out at text h = simp (lt-leb (at + 48) (length out) h)

same : (t : Bool) (w : Written) → cond t w w ≡ w
same true w = refl
same false w = refl

pub nothing_in_room : (out : List ℕ) → (0 ≡ (in_room out 0 []).next) × (out ≡ (in_room out 0 []).bytes)
unfolding in_room
nothing_in_room out =
    rw (written_nothing out 0 (omega arith), same (leb (0 + 48) (length out)) (record { bytes = out; next = 0 })) (refl, refl)

-- 48 bytes are room for every answer and its LF
pub length_refused : (n : ℕ) → length (refused_text n) ≤ 28
unfolding refused_text
length_refused n = omega (arith, length_int (pos n))

pub length_instant : (t : Instant) → length (instant_text t) ≤ 41
unfolding instant_text
length_instant t =
    simp length-append (omega (arith, length_int t.seconds, length_int (pos t.nanos)))

length_decoded : (a : Answer Instant) → length (decoded_text a) ≤ 41
length_decoded (gives t) = length_instant t
length_decoded (refused n) = omega (arith, length_refused n)

length_encoded : (a : Answer ℤ) → length (encoded_text a) ≤ 41
length_encoded (gives word) = omega (arith, length_int word)
length_encoded (refused n) = omega (arith, length_refused n)

pub length_answer : (q : Question) → length (answer_text q) ≤ 41
unfolding answer_text
length_answer (question.Decode layout word) = length_decoded _
length_answer (question.Encode layout seconds nanos) = length_encoded _

pub length_asked : (asked : Option Question) → length (asked_text asked) ≤ 41
unfolding asked_text bad_line
length_asked (Some q) = length_answer q
length_asked None = omega arith

pub length_line : (line : List ℕ) → length (line_text line) ≤ 42
unfolding line_text
length_line line = simp length-append (omega (arith, length_asked (question_of line)))
