-- Row by row: what each row of the output holds after a call, from the recursion over the rows. Assumes nothing.
use Prim.Native.Nat.{ℕ, zero, suc, ◌+◌, ◌*◌, ◌≤◌, ◌<◌}
use mathlib.Core.Path.{◌≡◌, refl, sym, ap, ◌∙◌}
use mathlib.Core.List.{List, ◌++◌}
use native.Mathlib.Omega.{arith}
use native.Mathlib.Nat.{mul-zero, mul-suc, le_of_suc-le-suc}
use lib.ListN.{length, take, drop, length-drop}
use lib.Seq.{drop-drop, take_at, drop_at}
use Rattle.refusal.specs.Answers.{Answer, gives, refused}
use Rattle.rows.specs.Cells.{instant_of, instant_bytes, bits_of, word_bytes}
use Rattle.rows.proofs.Promises.{row_lengths}
use Rattle.registry.specs.Words.{decode_by, encode_by}
use Rattle.columns.specs.Columns.{as_bytes, decode_row, encode_row, Column, row_then, rows_of}
use Rattle.columns.specs.Promises.{row_at, ByRow, EachRow}

-- row k behind the first is row k + 1
pub next_row : (w k : ℕ) (s : List ℕ) → row_at w k (drop w s) ≡ row_at w (suc k) s
next_row w k s = let e : w + w * k ≡ w * suc k = omega (arith, mul-suc w k) in rw (drop-drop (w * k) w s, e) refl

-- every row that is given has b bytes
abbrev Wide : (List ℕ → Answer (List ℕ)) → ℕ → Type 0
Wide row b = (x bytes : List ℕ) → row x ≡ gives bytes → length bytes ≡ b

module _ (row : List ℕ → Answer (List ℕ)) (a b : ℕ) (wide : Wide row b) where
  abbrev Holds : List ℕ → List ℕ → ℕ → Column → Type 0
  Holds input old k c = (k < c.done → row (row_at a k input) ≡ gives (row_at b k c.bytes)) × (c.done ≤ k → row_at b k c.bytes ≡ row_at b k old)

  -- a row in front of the others
  then : (r : Answer (List ℕ)) (input old : List ℕ) (others : Column) (k : ℕ) → row (take a input) ≡ r
      → ((j : ℕ) → suc j ≡ k → Holds (drop a input) (drop b old) j others) → Holds input old k (row_then r old others)
  unfolding row_then
  then (refused n) input old others k e f = (λ h. absurd (omega arith), λ h. refl)
  then (gives bytes) input old others zero e f =
      let l = wide (take a input) bytes e in
      (λ h. rw (mul-zero, mul-zero, take_at bytes others.bytes b l) e, λ h. absurd (omega arith))
  then (gives bytes) input old others (suc k) e f =
      let l = wide (take a input) bytes e in
      let w = f k refl in
      let out : row_at b (suc k) (bytes ++ others.bytes) ≡ row_at b k others.bytes = sym (next_row b k (bytes ++ others.bytes)) ∙ ap (row_at b k) (drop_at bytes others.bytes b l) in
      (λ h. rw (out, ← next_row a k input) (w.0 (le_of_suc-le-suc h)), λ h. out ∙ w.1 (le_of_suc-le-suc h) ∙ next_row b k old)

  pub by_row : ByRow row a b
  unfolding rows_of
  by_row zero input old k l h = absurd (omega arith)
  by_row (suc n) input old k l h =
      then (row (take a input)) input old (rows_of row a b n (drop a input) (drop b old)) k refl
      (λ j e. by_row n (drop a input) (drop b old) j (omega (arith, length-drop b old, mul-suc b n)) (omega arith))

-- the rows of the two calls
given : {A : Type 0} (bytes : A → List ℕ) (b : ℕ) → ((x : A) → length (bytes x) ≡ b) → (x : Answer A) (out : List ℕ) → as_bytes bytes x ≡ gives out → length out ≡ b
given bytes b wide (gives x) out e = let q : out ≡ bytes x = cc in ap length q ∙ wide x
given bytes b wide (refused n) out e = let z : ◌≡◌ {A = ℕ} 0 1 = cc in absurd (omega arith)

pub each_row : EachRow
unfolding decode_row encode_row
each_row rule = (
  by_row (decode_row rule) 8 12 (λ x out e. given instant_bytes 12 row_lengths.0 (decode_by rule (bits_of x)) out e),
  by_row (encode_row rule) 12 8 (λ x out e. given word_bytes 8 row_lengths.1 (encode_by rule (instant_of x)) out e),
)
