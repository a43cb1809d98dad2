-- The refusals of a call and of its rows lie in 1 to 13. Assumes nothing.
use Prim.Native.Nat.{ℕ, zero, suc, ◌≤◌}
use mathlib.Core.List.{List}
use native.Mathlib.Omega.{arith}
use lib.ListN.{take, drop}
use Rattle.refusal.specs.Answers.{Answer, gives, refused}
use Rattle.refusal.specs.Ranges.{RefusedWithin}
use Rattle.refusal.proofs.Ranges.{wider}
use Rattle.instant.proofs.Ranges.{refused_within}
use Rattle.rows.specs.Cells.{instant_of, instant_bytes, bits_of, word_bytes}
use Rattle.rows.specs.Counted.{rows_in}
use Rattle.rows.proofs.Promises.{row_refusals}
use Rattle.registry.specs.Words.{rule_for, decode_by, encode_by}
use Rattle.registry.specs.Promises.{PickedBy}
use Rattle.registry.specs.declared.rules.Rule.{Rule}
use Rattle.registry.proofs.RuleNumbers.{every_number}
use Rattle.registry.proofs.Refusals.{decoder_answers, encoder_refusals}
use Rattle.columns.specs.Columns.{as_bytes, decode_row, encode_row, Column, row_then, rows_of}

-- an answer whose refusal is such a number
abbrev pub Numbered : {A : Type 0} → Answer A → Type 0
Numbered x = RefusedWithin 1 13 x

-- ---- before the first row

pub numbered_count : (n m : ℕ) → Numbered (rows_in n m)
numbered_count n m = wider 11 13 1 13 (rows_in n m) (omega arith) (omega arith) (row_refusals n m)

pub numbered_rule : (n : ℕ) → Numbered (rule_for n)
numbered_rule n = go (rule_for n) (every_number n)
  where
    go : (x : Answer Rule) → PickedBy n x → Numbered x
    go (gives r) p = tt
    go (refused k) p = (omega (arith, p.0), omega (arith, p.0))

-- ---- rows

as_bytes_lem : {A : Type 0} (bytes : A → List ℕ) (x : Answer A) → Numbered x → Numbered (as_bytes bytes x)
as_bytes_lem bytes (gives x) h = tt
as_bytes_lem bytes (refused n) h = h

pub decode_row_lem : (r : Rule) (bytes : List ℕ) → Numbered (decode_row r bytes)
unfolding decode_row
decode_row_lem r bytes =
    let x = decode_by r (bits_of bytes) in
    as_bytes_lem instant_bytes x (wider 2 5 1 13 x (omega arith) (omega arith) (refused_within 2 5 x (decoder_answers r (bits_of bytes))))

pub encode_row_lem : (r : Rule) (bytes : List ℕ) → Numbered (encode_row r bytes)
unfolding encode_row
encode_row_lem r bytes =
    let x = encode_by r (instant_of bytes) in as_bytes_lem word_bytes x (wider 6 9 1 13 x (omega arith) (omega arith) (encoder_refusals r (instant_of bytes)))

module _ (row : List ℕ → Answer (List ℕ)) (a b : ℕ) (small : (bytes : List ℕ) → Numbered (row bytes)) where
  then : (r : Answer (List ℕ)) (old : List ℕ) (others : Column) → Numbered r → others.refusal ≤ 13 → (row_then r old others).refusal ≤ 13
  unfolding row_then
  then (gives bytes) old others h k = k
  then (refused n) old others h k = h.1

  pub rows_small : (rows : ℕ) (input old : List ℕ) → (rows_of row a b rows input old).refusal ≤ 13
  unfolding rows_of
  rows_small zero input old = omega arith
  rows_small (suc n) input old = then (row (take a input)) old _ (small (take a input)) (rows_small n (drop a input) (drop b old))
