-- The bytes of a stamp: the first one is byte 0.
use Rattle.std.specs.Prelude.{if◌then◌else◌, List, ℕ, ◌==◌, length, slice_index, take, drop}
use Rattle.refusal.specs.Answers.{Answer, refused}
use Rattle.octets.specs.Octets.{number_of}
use Rattle.instant.specs.declared.instants.Instant.{Instant}

-- byte k
abbrev pub byte_at : List ℕ → ℕ → ℕ
byte_at b k = slice_index b k

-- bytes k and k + 1, the low one first
abbrev pub word_at : List ℕ → ℕ → ℕ
word_at b k = number_of (take 2 (drop k b))

-- 10 for a stamp that has not n bytes, before anything in it is looked at
abbrev pub of_length : ℕ → List ℕ → Answer Instant → Answer Instant
of_length n b answer = if length b == n then answer else refused 10
