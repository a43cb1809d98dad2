-- What a column call leaves in its output, and the number that it answers.
use Rattle.std.specs.Prelude.{◌≡◌, ℕ, zero, suc, ◌+◌, ◌*◌, List, ◌++◌, length, take, drop, Result, Ok, Err}
use Rattle.refusal.specs.Answers.{Answer, gives, refused, refusal_number}
use Rattle.refusal.specs.declared.Refusal.{Refusal}
use Rattle.rows.specs.Cells.{instant_of, instant_bytes, bits_of, word_bytes}
use Rattle.rows.specs.Counted.{rows_in}
use Rattle.registry.specs.Words.{rule_for, decode_by, encode_by}
use Rattle.registry.specs.declared.rules.Rule.{Rule}

-- ---- one row

-- the bytes of what a row gives, or its refusal
abbrev pub as_bytes : {A : Type 0} → (A → List ℕ) → Answer A → Answer (List ℕ)
as_bytes bytes (gives x) = gives (bytes x)
as_bytes bytes (refused n) = refused n

-- a row of 8 bytes to one of 12, and a row of 12 to one of 8
unfoldable pub decode_row : Rule → List ℕ → Answer (List ℕ)
decode_row rule bytes = as_bytes instant_bytes (decode_by rule (bits_of bytes))

unfoldable pub encode_row : Rule → List ℕ → Answer (List ℕ)
encode_row rule bytes = as_bytes word_bytes (encode_by rule (instant_of bytes))

-- what a call leaves that was lent a row of the output: what its row gives; or its refusal, and the row as it was
abbrev pub RowLeaves : Answer (List ℕ) → List ℕ → Result (Unit {0}) Refusal → List ℕ → Type 0
RowLeaves answer old (Ok done) new = answer ≡ gives new
RowLeaves answer old (Err why) new = (answer ≡ refused (refusal_number why)) × (new ≡ old)

-- ---- all rows

-- an output after a call: its bytes, how many of its rows are done, and the refusal that ended them, 0 for none
pub record Column : Type 0 where
  pub bytes : List ℕ
  pub done : ℕ
  pub refusal : ℕ

-- no row is done, and the bytes are the old ones
abbrev pub untouched : ℕ → List ℕ → Column
untouched n old = record { bytes = old; done = 0; refusal = n }

-- a row in front of the others: done, and they follow; or refused, and the old bytes stay
unfoldable pub row_then : Answer (List ℕ) → List ℕ → Column → Column
row_then (gives bytes) old others = record { bytes = bytes ++ others.bytes; done = suc others.done; refusal = others.refusal }
row_then (refused n) old others = untouched n old

-- k rows, of which each reads `a` bytes of the input and writes `b` of the output
unfoldable pub rows_of : (List ℕ → Answer (List ℕ)) → ℕ → ℕ → ℕ → List ℕ → List ℕ → Column
rows_of row a b zero input old = untouched 0 old
rows_of row a b (suc k) input old = row_then (row (take a input)) old (rows_of row a b k (drop a input) (drop b old))

-- ---- the whole call

-- 11 and 13 for the rows, then 1 for the layout number, and then the rows, one by one
abbrev pub column_with : (Rule → List ℕ → Answer (List ℕ)) → ℕ → ℕ → Answer ℕ → Answer Rule → List ℕ → List ℕ → Column
column_with row a b (gives rows) (gives rule) input old = rows_of (row rule) a b rows input old
column_with row a b (gives rows) (refused n) input old = untouched n old
column_with row a b (refused n) rule input old = untouched n old

unfoldable pub decode_column : ℕ → List ℕ → List ℕ → Column
decode_column layout words instants =
    column_with decode_row 8 12 (rows_in (length words) (length instants)) (rule_for layout) words instants

unfoldable pub encode_column : ℕ → List ℕ → List ℕ → Column
encode_column layout instants words =
    column_with encode_row 12 8 (rows_in (length words) (length instants)) (rule_for layout) instants words

-- the answer: rows done times 16, plus the refusal
abbrev pub answer : Column → ℕ
answer c = c.done * 16 + c.refusal
