-- What holds of the definitions. Each is proved in proofs/Promises.antt.
use Rattle.std.specs.Prelude.{ℕ, ◌≤◌, ◌<◌, ◌≡◌, if◌then◌else◌, List, [], ◌∷◌, ◌++◌, ◌==◌, length}
use Rattle.line_input.specs.Held.{Kept, holds}
use Rattle.lines.specs.Answers.{line_text}
use Rattle.stream.specs.Stream.{After, text_then, after_bytes, taken, Feeds, last_text}
use Rattle.stream.specs.declared.Fed.{Fed}

-- ---- the whole input

-- the lines of an input, the first of which has some bytes already: an LF, the byte 10, ends a line, and what follows the
-- last LF is a line where it is not empty
unfoldable pub lines_behind : List ℕ → List ℕ → List (List ℕ)
lines_behind line [] = if length line == 0 then [] else line ∷ []
lines_behind line (b ∷ bs) = if b == 10 then line ∷ lines_behind [] bs else lines_behind (line ++ (b ∷ [])) bs

-- a line of output for each
unfoldable pub answers_to : List (List ℕ) → List ℕ
answers_to [] = []
answers_to (line ∷ lines) = line_text line ++ answers_to lines

-- what the line program writes for an input
unfoldable pub output_of : List ℕ → List ℕ
output_of input = answers_to (lines_behind [] input)

-- ---- the stream

-- blocks, one after the other
unfoldable pub in_blocks : Kept → List (List ℕ) → After
in_blocks h [] = record { text = []; held = h }
in_blocks h (block ∷ blocks) = text_then (after_bytes h block).text (in_blocks (after_bytes h block).held blocks)

-- their bytes as one input
unfoldable pub joined : List (List ℕ) → List ℕ
joined [] = []
joined (block ∷ blocks) = block ++ joined blocks

-- all that is written when the input has ended
abbrev pub whole : After → List ℕ
whole a = a.text ++ last_text a.held

-- ---- what is promised

-- how the input arrives in blocks can't change the output: whatever the blocks, and whatever the 65 bytes that hold a line
-- had in them before, the stream writes what the lines of the whole input ask for
abbrev pub AnyBlocks : Type 0
AnyBlocks =
    (bytes : List ℕ) (blocks : List (List ℕ)) → length bytes ≡ 65
    → whole (in_blocks (holds bytes 0) blocks) ≡ output_of (joined blocks)

-- a call that has room takes a byte, and none takes more than there are: whoever feeds the rest of a block again comes to
-- its end
abbrev pub Progress : Type 0
Progress =
    (h : Kept) (block : List ℕ) (room : ℕ) → 48 ≤ room → 0 < length block
    → (0 < taken h block room) × (taken h block room ≤ length block)

-- one answer: all that the contract of `feed` allows, of its answer and of the bytes that it was lent, is equal. The other
-- contracts say `≡` themselves
abbrev pub OneAnswer : Type 0
OneAnswer =
    (h : Kept) (block out : List ℕ) (r s : Fed) (bytes others new other : List ℕ) → Feeds h block out r bytes new
    → Feeds h block out s others other → (r ≡ s) × (bytes ≡ others) × (new ≡ other)
