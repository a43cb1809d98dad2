-- What holds of the definitions. Each is proved in proofs/Promises.antt.
use Rattle.std.specs.Prelude.{ℕ, ◌*◌, ◌/◌, ◌%◌, ◌≤◌, ◌<◌, ◌≡◌, List, ◌⊎◌, length, take, drop}
use Rattle.refusal.specs.Answers.{Answer, gives, refused}
use Rattle.registry.specs.declared.rules.Rule.{Rule}
use Rattle.columns.specs.Columns.{Column, decode_row, encode_row, rows_of, decode_column, encode_column, answer}

-- row k of a column with rows of w bytes
abbrev pub row_at : ℕ → ℕ → List ℕ → List ℕ
row_at w k column = take w (drop (w * k) column)

-- every row before the count is accepted
abbrev pub Accepted : Type 0
Accepted =
    (row : List ℕ → Answer (List ℕ)) (a b rows : ℕ) (input old : List ℕ) (k : ℕ) → k < (rows_of row a b rows input old).done →
    (bytes : List ℕ) × (row (row_at a k input) ≡ gives bytes)

-- all rows are done and nothing refused them, or the row at the count is refused, under the number that is told: with the
-- promise before, it is the least row that is refused
abbrev pub Ended : Type 0
Ended =
    (row : List ℕ → Answer (List ℕ)) (a b rows : ℕ) (input old : List ℕ) →
    (((rows_of row a b rows input old).done ≡ rows) × ((rows_of row a b rows input old).refusal ≡ 0))
    ⊎ (((rows_of row a b rows input old).done < rows) × (row (row_at a (rows_of row a b rows input old).done input) ≡ refused (rows_of row a b rows input old).refusal))

-- row by row: a row before the count holds its result, and a row from the count on its old bytes
abbrev pub ByRow : (List ℕ → Answer (List ℕ)) → ℕ → ℕ → Type 0
ByRow row a b =
    (rows : ℕ) (input old : List ℕ) (k : ℕ) → length old ≡ b * rows → k < rows →
    (k < (rows_of row a b rows input old).done → row (row_at a k input) ≡ gives (row_at b k (rows_of row a b rows input old).bytes))
    × ((rows_of row a b rows input old).done ≤ k → row_at b k (rows_of row a b rows input old).bytes ≡ row_at b k old)

abbrev pub EachRow : Type 0
EachRow = (rule : Rule) → ByRow (decode_row rule) 8 12 × ByRow (encode_row rule) 12 8

-- a call refuses under 1 to 13, or tells 0
abbrev pub ColumnRefusals : Type 0
ColumnRefusals =
    (layout : ℕ) (input old : List ℕ) → ((decode_column layout input old).refusal ≤ 13) × ((encode_column layout input old).refusal ≤ 13)

-- so the answer reads back: its quotient by 16 is the count, and what that leaves is the refusal
abbrev pub Reads : Column → Type 0
Reads c = (answer c / 16 ≡ c.done) × (answer c % 16 ≡ c.refusal)

abbrev pub ReadsBack : Type 0
ReadsBack = (layout : ℕ) (input old : List ℕ) → Reads (decode_column layout input old) × Reads (encode_column layout input old)

-- and 0 is told only where every row is done
abbrev pub AllDone : Type 0
AllDone =
    (layout : ℕ) (input old : List ℕ) →
    ((decode_column layout input old).refusal ≡ 0 → (decode_column layout input old).done ≡ length input / 8)
    × ((encode_column layout input old).refusal ≡ 0 → (encode_column layout input old).done ≡ length input / 12)

-- one answer: all that the contract of a call allows, of its number and of the bytes that it was lent, is equal
abbrev pub Leaves : Column → ℕ → List ℕ → Type 0
Leaves c r bytes = (r ≡ answer c) × (bytes ≡ c.bytes)

abbrev pub OneAnswer : Type 0
OneAnswer = (c : Column) (r s : ℕ) (x y : List ℕ) → Leaves c r x → Leaves c s y → (r ≡ s) × (x ≡ y)
