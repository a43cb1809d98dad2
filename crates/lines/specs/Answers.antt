-- The text that answers a line.
use Rattle.std.specs.Prelude.{ℕ, ◌+◌, if◌then◌else◌, List, [], ◌∷◌, ◌++◌, nat_le, ℤ, pos, Option, Some, None, length}
use Rattle.std.specs.Int.{w64, cast_unsigned}
use Rattle.refusal.specs.Answers.{Answer, gives, refused}
use Rattle.instant.specs.Instants as instant
use Rattle.instant.specs.declared.instants.Instant.{Instant}
use Rattle.texts.specs.Buffer.{Written, written}
use Rattle.decimal.specs.Write.{show_int}
use Rattle.registry.specs.Words.{decode_for, encode_for}
use Rattle.lines.specs.Questions.{question_of, narrowed}
use Rattle.lines.specs.declared.questions.Question.{Question}
use Rattle.lines.specs.declared.questions.Question.TheVariants as question

-- `bad line`
unfoldable pub bad_line : List ℕ
bad_line = 98 ∷ 97 ∷ 100 ∷ 32 ∷ 108 ∷ 105 ∷ 110 ∷ 101 ∷ []

-- `refused N`
unfoldable pub refused_text : ℕ → List ℕ
refused_text n = (114 ∷ 101 ∷ 102 ∷ 117 ∷ 115 ∷ 101 ∷ 100 ∷ 32 ∷ []) ++ show_int (pos n)

-- `SECONDS NANOS`
unfoldable pub instant_text : Instant → List ℕ
instant_text t = (show_int t.seconds ++ (32 ∷ [])) ++ show_int (pos t.nanos)

-- what is given, by its own text, or why nothing is
abbrev pub given_text : {A : Type 0} → (A → List ℕ) → Answer A → List ℕ
given_text text (gives x) = text x
given_text text (refused n) = refused_text n

-- an instant, or why there is none
abbrev pub decoded_text : Answer Instant → List ℕ
decoded_text answer = given_text instant_text answer

-- a word, or why there is none
abbrev pub encoded_text : Answer ℤ → List ℕ
encoded_text answer = given_text show_int answer

-- nanoseconds that 32 bits do not hold are 2^32 - 1, which is refused under 9
abbrev pub instant_asked : ℤ → ℤ → Instant
instant_asked seconds nanos = instant.at seconds (narrowed nanos 4294967295)

-- what the registry's definitions say; a layout that 32 bits do not hold is 0, which is refused under 1
unfoldable pub answer_text : Question → List ℕ
answer_text (question.Decode layout word) = decoded_text (decode_for (narrowed layout 0) (cast_unsigned w64 word))
answer_text (question.Encode layout seconds nanos) = encoded_text (encode_for (narrowed layout 0) (instant_asked seconds nanos))

-- a line that asks nothing is bad
unfoldable pub asked_text : Option Question → List ℕ
asked_text (Some asked) = answer_text asked
asked_text None = bad_line

-- one line of input to one line of output, which ends in LF
unfoldable pub line_text : List ℕ → List ℕ
line_text line = asked_text (question_of line) ++ (10 ∷ [])

-- text in place of out's bytes from index at on, where at least 48 stand there, the room that every answer has; else out
-- as it is
unfoldable pub in_room : List ℕ → ℕ → List ℕ → Written
in_room out at text = if nat_le (at + 48) (length out) then written out at text else record { bytes = out; next = at }
