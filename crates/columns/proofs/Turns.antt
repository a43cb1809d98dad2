-- A loop over rows, for any row: before each turn the whole column is what is done, and then the rows that are left.
use Prim.Native.Nat.{ℕ, suc, ◌+◌, ◌-◌, ◌*◌, ◌≤◌, ◌<◌}
use mathlib.Core.Path.{◌≡◌, refl, sym, ap, ◌∙◌}
use mathlib.Core.List.{List, ◌++◌, append_assoc}
use native.Mathlib.Omega.{arith}
use native.Mathlib.Nat.{mul-zero, mul-suc, sub-zero, zero-add, add-zero, mul-le-mul_left, add-sub_cancel_left}
use native.Mathlib.Numerals.{add-one}
use lib.ListN.{length, take, drop, length-append, length-drop, take-append-drop}
use lib.Seq.{take_at, drop_at, drop-drop, length-take-le}
use borrow.Rule.Slice.PartMut.{put_mid, same_len_mid}
use Rattle.refusal.specs.Answers.{Answer, gives, refused}
use Rattle.columns.specs.Columns.{Column, row_then, rows_of, answer}

-- rows that are done, in front of the rest
abbrev behind : List ℕ → ℕ → Column → Column
behind p i c = record { bytes = p ++ c.bytes; done = i + c.done; refusal = c.refusal }

shift : (i n : ℕ) → i + 1 + n ≡ i + suc n
shift i n = omega arith

module _ (row : List ℕ → Answer (List ℕ)) (a b rows : ℕ) (input old : List ℕ) where
  -- i rows are done
  pub record Midway (out : List ℕ) (i : ℕ) : Type 0 where
    pub within : i ≤ rows
    pub long : length out ≡ length old
    pub whole : rows_of row a b rows input old ≡ behind (take (b * i) out) i (rows_of row a b (rows - i) (drop (a * i) input) (drop (b * i) out))

  pub start : Midway old 0
  start = record { within = omega arith; long = refl; whole = rw (mul-zero, mul-zero, sub-zero, zero-add) refl }

  module _ {out : List ℕ} {i : ℕ} (m : Midway out i) where
    turn : i < rows →
        rows_of row a b rows input old
        ≡ behind (take (b * i) out) i (row_then (row (take a (drop (a * i) input))) (drop (b * i) out) (rows_of row a b (rows - (i + 1)) (drop a (drop (a * i) input)) (drop b (drop (b * i) out))))
    unfolding rows_of
    turn h = let e : rows - i ≡ suc (rows - (i + 1)) = omega arith in rw e at m.whole

    -- a row that is done
    pub more : (bytes : List ℕ) → i < rows → length old ≡ b * rows → row (take a (drop (a * i) input)) ≡ gives bytes → length bytes ≡ b →
        Midway (put_mid (b * i) (b * i + b - b * i) out bytes) (i + 1)
    unfolding row_then
    more bytes h l e lb =
        let nb : b * (i + 1) ≡ b * i + b = rw (add-one i, mul-suc b i) refl in
        let na : a * (i + 1) ≡ a * i + a = rw (add-one i, mul-suc a i) refl in
        let fit : b * i + b ≤ length out = omega (arith, mul-le-mul_left b h, mul-suc b i, m.long) in
        let p = take (b * i) out in
        let q = drop (b * i + b - b * i) (drop (b * i) out) in
        let lp : length (p ++ bytes) ≡ b * i + b = omega (arith, length-append p bytes, length-take-le (b * i) out (omega arith)) in
        let lm : length bytes ≡ length (take (b * i + b - b * i) (drop (b * i) out)) =
        rw (add-sub_cancel_left (b * i) b, length-take-le b (drop (b * i) out) (omega (arith, length-drop (b * i) out))) lb in
        let t : take (b * (i + 1)) (p ++ (bytes ++ q)) ≡ p ++ bytes = rw (nb, ← append_assoc p bytes q, take_at (p ++ bytes) q (b * i + b) lp) in
        let u : drop (b * (i + 1)) (p ++ (bytes ++ q)) ≡ drop b (drop (b * i) out) =
        rw (nb, ← append_assoc p bytes q, drop_at (p ++ bytes) q (b * i + b) lp, add-sub_cancel_left (b * i) b) in
        let v : drop (a * (i + 1)) input ≡ drop a (drop (a * i) input) = rw (na, ← drop-drop a (a * i) input) in
        record {
          within = omega arith;
          long = same_len_mid (b * i) (b * i + b - b * i) out bytes lm ∙ m.long;
          whole = (rw e at (turn h)) ∙ rw (t, u, v, append_assoc, shift) refl;
        }

    -- a row that is written over itself
    pub same : (bytes : List ℕ) → bytes ≡ take (b * i + b - b * i) (drop (b * i) out) → put_mid (b * i) (b * i + b - b * i) out bytes ≡ out
    same bytes e = rw (e, take-append-drop) (take-append-drop (b * i) out)

    -- a row that is refused, and the end of the rows: the answer, and the bytes
    pub stop : (n : ℕ) → i < rows → row (take a (drop (a * i) input)) ≡ refused n →
        (i * 16 + n ≡ answer (rows_of row a b rows input old)) × (out ≡ (rows_of row a b rows input old).bytes)
    unfolding row_then
    stop n h e =
        let w = rw (e, add-zero) at (turn h) in
        (rw w refl, sym (ap (λ c. c.bytes) w ∙ take-append-drop (b * i) out))

    pub end : rows ≤ i → (i * 16 ≡ answer (rows_of row a b rows input old)) × (out ≡ (rows_of row a b rows input old).bytes)
    unfolding rows_of
    end h =
        let z : rows - i ≡ 0 = omega arith in
        let w = rw (z, add-zero) at m.whole in
        (rw (w, add-zero) refl, sym (ap (λ c. c.bytes) w ∙ take-append-drop (b * i) out))
