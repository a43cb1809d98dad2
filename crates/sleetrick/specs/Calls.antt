-- What a call on one value leaves in the row that it is lent, and the number that it answers.
use Rattle.std.specs.Prelude.{ℕ, if◌then◌else◌, List, ◌==◌, ℤ, length}
use Rattle.refusal.specs.Answers.{Answer, gives, refused}
use Rattle.instant.specs.declared.instants.Instant.{Instant}
use Rattle.rows.specs.Cells.{instant_bytes, word_bytes}
use Rattle.sleetrick.specs.Numbers.{tells}

-- the lent bytes after a call, and its number
pub record Left : Type 0 where
  pub bytes : List ℕ
  pub number : ℕ

-- a value is written, and 0 is told; a refusal is told, and the bytes stay
abbrev pub handed : {A : Type 0} → (A → List ℕ) → List ℕ → Answer A → Left
handed bytes old (gives x) = record { bytes = bytes x; number = tells 0 0 0 }
handed bytes old (refused n) = record { bytes = old; number = tells 0 0 n }

-- 11 where the lent bytes are not one row of w, before anything else is told
abbrev pub in_row : {A : Type 0} → ℕ → List ℕ → Answer A → Answer A
in_row w old answer = if length old == w then answer else refused 11

-- the calls that give an instant, and the one that gives a word
unfoldable pub instant_call : Answer Instant → List ℕ → Left
instant_call answer old = handed instant_bytes old (in_row 12 old answer)

unfoldable pub word_call : Answer ℤ → List ℕ → Left
word_call answer old = handed word_bytes old (in_row 8 old answer)
