-- What a line of text asks. A line is a list of bytes without its LF: the letters d and e are the bytes 100 and 101.
use Rattle.std.specs.Prelude.{ℕ, if◌then◌else◌, List, ◌==◌, nat_lt, ℤ, pos, negsuc, Option, Some, None, length, slice_index}
use Rattle.texts.specs.Spaces.{before_space, after_space}
use Rattle.decimal.specs.Read.{number_in}
use Rattle.lines.specs.declared.questions.Question.{Question}
use Rattle.lines.specs.declared.questions.Question.TheVariants as question

-- a layout and a word, where both are numbers
unfoldable pub asks_decode : Option ℤ → Option ℤ → Option Question
asks_decode (Some layout) (Some word) = Some (question.Decode layout word)
asks_decode (Some layout) None = None
asks_decode None word = None

-- a layout, seconds and nanoseconds, where all three are numbers
unfoldable pub asks_encode : Option ℤ → Option ℤ → Option ℤ → Option Question
asks_encode (Some layout) (Some seconds) (Some nanos) = Some (question.Encode layout seconds nanos)
asks_encode (Some layout) (Some seconds) None = None
asks_encode (Some layout) None nanos = None
asks_encode None seconds nanos = None

-- LAYOUT WORD: what is left behind the one space is one number, so that another space spoils it
unfoldable pub decode_in : List ℕ → Option Question
decode_in text = asks_decode (number_in (before_space text)) (number_in (after_space text))

-- LAYOUT SECONDS NANOS
unfoldable pub encode_in : List ℕ → Option Question
encode_in text = asks_encode (number_in (before_space text)) (number_in (before_space (after_space text))) (number_in (after_space (after_space text)))

-- d or e, and what stands behind its space
unfoldable pub behind_letter : ℕ → List ℕ → Option Question
behind_letter letter text = if letter == 100 then decode_in text else (if letter == 101 then encode_in text else None)

-- a line of at most 64 bytes with one letter before its first space
unfoldable pub question_of : List ℕ → Option Question
question_of line =
    if nat_lt 64 (length line) then None
    else (if length (before_space line) == 1 then behind_letter (slice_index (before_space line) 0) (after_space line) else None)

-- a number for the codec, where 32 bits hold it; else another, which the codec refuses
unfoldable pub narrowed : ℤ → ℕ → ℕ
narrowed (pos n) other = if nat_lt 4294967295 n then other else n
narrowed (negsuc n) other = other
