-- The promises of specs/Promises. Assumes nothing.
use Prim.Native.Nat.{ℕ, zero, suc, ◌/◌, ◌≤◌, ◌<◌}
use mathlib.Core.Path.{◌≡◌, refl, sym, ap, ◌∙◌}
use mathlib.Core.List.{List, ◌++◌}
use mathlib.Core.Logic.{◌⊎◌, inl, inr, ⊎_elim}
use native.Mathlib.Omega.{arith}
use native.Mathlib.Nat.{mul-zero, le_of_suc-le-suc, not-suc-le-zero}
use lib.ListN.{length, take, drop}
use Rattle.refusal.specs.Answers.{Answer, gives, refused}
use Rattle.rows.specs.Counted.{rows_in}
use Rattle.rows.proofs.Promises.{rows_are_whole}
use Rattle.registry.specs.Words.{rule_for}
use Rattle.registry.specs.declared.rules.Rule.{Rule}
use Rattle.columns.specs.Columns.{Column, row_then, rows_of, column_with, decode_row, encode_row, decode_column, encode_column}
use Rattle.columns.specs.Promises.{row_at, Accepted, Ended, ColumnRefusals, Reads, ReadsBack, AllDone, OneAnswer}
use Rattle.columns.proofs.Rows.{next_row}
use Rattle.columns.proofs.Refusals.{Numbered, numbered_count, numbered_rule, decode_row_lem, encode_row_lem, rows_small}

module _ (row : List ℕ → Answer (List ℕ)) (a b : ℕ) where
  abbrev Taken : List ℕ → ℕ → Type 0
  Taken input k = (bytes : List ℕ) × (row (row_at a k input) ≡ gives bytes)

  first : (r : Answer (List ℕ)) (input old : List ℕ) (others : Column) → row (take a input) ≡ r →
      ((k : ℕ) → k < others.done → Taken (drop a input) k) → (k : ℕ) → k < (row_then r old others).done → Taken input k
  unfolding row_then
  first (refused n) input old others e f k h = absurd (not-suc-le-zero h)
  first (gives bytes) input old others e f zero h = (bytes, rw (mul-zero a) e)
  first (gives bytes) input old others e f (suc k) h = let w = f k (le_of_suc-le-suc h) in (w.0, rw (next_row a k input) at w.1)

  taken : (rows : ℕ) (input old : List ℕ) (k : ℕ) → k < (rows_of row a b rows input old).done → Taken input k
  unfolding rows_of
  taken zero input old k h = absurd (not-suc-le-zero h)
  taken (suc n) input old k h =
      first (row (take a input)) input old (rows_of row a b n (drop a input) (drop b old)) refl (taken n (drop a input) (drop b old)) k h

  abbrev Stands : ℕ → List ℕ → Column → Type 0
  Stands rows input c =
      ((c.done ≡ rows) × (c.refusal ≡ 0)) ⊎ ((c.done < rows) × (row (row_at a c.done input) ≡ refused c.refusal))

  later : (n : ℕ) (input bytes : List ℕ) (others : Column) → Stands n (drop a input) others →
      Stands (suc n) input (record { bytes = bytes ++ others.bytes; done = suc others.done; refusal = others.refusal })
  later n input bytes others s =
      ⊎_elim (λ w. inl (ap suc w.0, w.1)) (λ w. inr (omega (arith, w.0), rw (next_row a others.done input) at w.1)) s

  stands : (r : Answer (List ℕ)) (n : ℕ) (input old : List ℕ) (others : Column) → row (take a input) ≡ r → Stands n (drop a input) others →
      Stands (suc n) input (row_then r old others)
  unfolding row_then
  stands (refused m) n input old others e s = inr (omega arith, rw (mul-zero a) e)
  stands (gives bytes) n input old others e s = later n input bytes others s

  ends : (rows : ℕ) (input old : List ℕ) → Stands rows input (rows_of row a b rows input old)
  unfolding rows_of
  ends zero input old = inl (refl, refl)
  ends (suc n) input old =
      stands (row (take a input)) n input old (rows_of row a b n (drop a input) (drop b old)) refl (ends n (drop a input) (drop b old))

pub accepted : Accepted
accepted row a b rows input old k h = taken row a b rows input old k h

pub ended : Ended
ended row a b rows input old = ends row a b rows input old

-- ---- the whole call

module _ (row : Rule → List ℕ → Answer (List ℕ)) (a b : ℕ) (small : (r : Rule) (bytes : List ℕ) → Numbered (row r bytes)) (input old : List ℕ) where
  column_small : (x : Answer ℕ) (r : Answer Rule) → Numbered x → Numbered r → (column_with row a b x r input old).refusal ≤ 13
  column_small (gives k) (gives rule) h q = rows_small (row rule) a b (small rule) k input old
  column_small (gives k) (refused n) h q = q.1
  column_small (refused n) r h q = h.1

  -- where nothing is refused, every row is done
  no_refusal : (rule : Rule) (rows : ℕ) → (rows_of (row rule) a b rows input old).refusal ≡ 0 → (rows_of (row rule) a b rows input old).done ≡ rows
  no_refusal rule rows e =
      ⊎_elim (λ w. w.0)
      (λ w. let h = small rule (row_at a (rows_of (row rule) a b rows input old).done input) in absurd (not-suc-le-zero (rw (w.1, e) at h).0))
      (ends (row rule) a b rows input old)

  column_done : (x : Answer ℕ) (r : Answer Rule) (n : ℕ) → ((k : ℕ) → x ≡ gives k → k ≡ n) → Numbered x → Numbered r → (column_with row a b x r input old).refusal ≡ 0
      → (column_with row a b x r input old).done ≡ n
  column_done (gives k) (gives rule) n is h q e = no_refusal rule k e ∙ is k refl
  column_done (gives k) (refused m) n is h q e = absurd (omega (arith, q.0, e))
  column_done (refused m) r n is h q e = absurd (omega (arith, h.0, e))

pub column_refusals : ColumnRefusals
unfolding decode_column encode_column
column_refusals layout input old = (
  column_small decode_row 8 12 decode_row_lem input old (rows_in (length input) (length old)) (rule_for layout) (numbered_count (length input) (length old)) (numbered_rule layout),
  column_small encode_row 12 8 encode_row_lem input old (rows_in (length old) (length input)) (rule_for layout) (numbered_count (length old) (length input)) (numbered_rule layout),
)

reads : (c : Column) → c.refusal ≤ 13 → Reads c
reads c h = (omega arith, omega arith)

pub reads_back : ReadsBack
reads_back layout input old = let h = column_refusals layout input old in (reads (decode_column layout input old) h.0, reads (encode_column layout input old) h.1)

pub all_done : AllDone
unfolding decode_column encode_column
all_done layout input old = (
  column_done decode_row 8 12 decode_row_lem input old (rows_in (length input) (length old)) (rule_for layout) (length input / 8)
      (λ k e. let w = rows_are_whole (length input) (length old) k e in omega (arith, w.words))
      (numbered_count (length input) (length old)) (numbered_rule layout),
  column_done encode_row 12 8 encode_row_lem input old (rows_in (length old) (length input)) (rule_for layout) (length input / 12)
      (λ k e. let w = rows_are_whole (length old) (length input) k e in omega (arith, w.instants))
      (numbered_count (length old) (length input)) (numbered_rule layout),
)

pub one_answer : OneAnswer
one_answer c r s x y p q = (p.0 ∙ sym q.0, p.1 ∙ sym q.1)
