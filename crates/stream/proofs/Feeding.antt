-- The stream, a byte and a block at a time. A block's bytes go through the stream one by one, so that a block in two parts
-- leaves what the whole leaves. Assumes nothing.
use Prim.Native.Nat.{ℕ, suc, ◌+◌, ◌-◌, ◌≤◌, ◌<◌}
use mathlib.Core.Path.{◌≡◌, refl, sym, ap, ◌∙◌}
use mathlib.Core.Bool.{Bool, true, false, cond}
use mathlib.Core.List.{List, [], ◌∷◌, ◌++◌, append_assoc, append-nil}
use native.Mathlib.Omega.{arith}
use native.Mathlib.Nat.{zero-add}
use native.Mathlib.Numerals.{add-one, unary_clauses}
use borrow.Author.Tests.{le-leb, lt-leb}
use lib.Dec.{eqb}
use lib.ListN.{length, get_or, take, drop, length-append, take-append-drop, drop_of_length-le}
use lib.Seq.{drop-cons, take-suc, take_at, drop_at, drop-drop, length-take-le}
use Rattle.line_input.specs.Held.{Kept, holds, line_in, kept}
use Rattle.texts.specs.Buffer.{Written}
use Rattle.texts.proofs.Putting.{pasted, fits}
use Rattle.stream.specs.Stream.{After, after_byte, text_then, after_bytes, taken, Feeds}
use Rattle.lines.proofs.Texts.{Puts, length_line}

-- a byte's text is at most a line's
either : (t : Bool) (xs : List ℕ) (h k : Kept) → length xs ≤ 42
    → length (cond {A = After} t (record { text = xs; held = h }) (record { text = []; held = k })).text ≤ 42
either true xs h k l = l
either false xs h k l = omega arith

pub length_after : (h : Kept) (b : ℕ) → length (after_byte h b).text ≤ 42
unfolding after_byte
length_after h b =
    either (eqb b 10) _ (holds h.bytes 0) (kept h b) (length_line (line_in h))

-- input in two parts is the same as the whole
pub in_parts : (h : Kept) (xs ys : List ℕ) → after_bytes h (xs ++ ys) ≡ text_then (after_bytes h xs).text (after_bytes (after_bytes h xs).held ys)
unfolding after_bytes
in_parts h [] ys = refl
in_parts h (b ∷ bs) ys = rw (in_parts (after_byte h b).held bs ys, append_assoc)

-- one byte more
one_more : (h : Kept) (block : List ℕ) (i : ℕ) → i < length block
    → after_bytes h (take (i + 1) block) ≡ text_then (after_bytes h (take i block)).text (after_byte (after_bytes h (take i block)).held (get_or block i 0))
unfolding after_bytes
one_more h block i g = rw (add-one i, take-suc block i 0 g, in_parts h (take i block) (get_or block i 0 ∷ []), append-nil)

-- bytes are taken while there is room
taken_more : (h : Kept) (b : ℕ) (bs : List ℕ) (room : ℕ) → 48 ≤ room
    → taken h (b ∷ bs) room ≡ suc (taken (after_byte h b).held bs (room - length (after_byte h b).text))
unfolding taken
taken_more h b bs room l = simp (le-leb 48 room l)

pub taken_full : (h : Kept) (block : List ℕ) (room : ℕ) → room < 48 → taken h block room ≡ 0
unfolding taken
taken_full h [] room l = refl
taken_full h (b ∷ bs) room l = simp (lt-leb 48 room l)

pub taken_all : (h : Kept) (block : List ℕ) (i room : ℕ) → length block ≤ i → taken h (drop i block) room ≡ 0
unfolding taken
taken_all h block i room l = rw (drop_of_length-le block l)

-- i bytes of a block were taken, and their text ends at `at`
module _ (h : Kept) (block old : List ℕ) where
  pub record Feeding (bytes out : List ℕ) (n at i : ℕ) : Type 0 where
    pub within : i ≤ length block
    pub wide : length out ≡ length old
    pub small : at ≤ length old
    pub so_far : after_bytes h (take i block) ≡ record { text = take at out; held = holds bytes n }
    pub tail : drop at out ≡ drop at old
    pub left : taken h block (length old) ≡ i + taken (holds bytes n) (drop i block) (length old - at)

  module _ {bytes out : List ℕ} {n at i : ℕ} (d : Feeding bytes out n at i) where
    pub feed_more : {bytes' out' : List ℕ} {n' at' : ℕ} → i < length block → at + 48 ≤ length out
        → holds bytes' n' ≡ (after_byte (holds bytes n) (get_or block i 0)).held
        → Puts out at (after_byte (holds bytes n) (get_or block i 0)).text at' out'
        → length out' ≡ length out → Feeding bytes' out' n' at' (i + 1)
    feed_more {bytes'} {out'} {n'} {at'} g room hold put same =
        let b = get_or block i 0 in
        let s = after_byte (holds bytes n) b in
        let t = s.text in
        let short = length_after (holds bytes n) b in
        let f = fits out at t (omega arith) in
        let to : at' ≡ at + length t = put.0 ∙ ap (λ (w : Written). w.next) f in
        let now : out' ≡ pasted out at t = put.1 ∙ ap (λ (w : Written). w.bytes) f in
        let head = take at out ++ t in
        let m : length head ≡ at + length t = omega (arith, length-append (take at out) t, length-take-le at out (omega arith)) in
        let text : head ≡ take at' out' = rw (to, now, take_at head (drop (at + length t) out) (at + length t) m) in
        let room-left : length old - at - length t ≡ length old - at' = omega arith in
        let more = taken_more (holds bytes n) b (drop (suc i) block) (length old - at) (omega (arith, d.wide)) in
        let next = rw (← drop-cons block i 0 g) at more in
        let after : taken s.held (drop (suc i) block) (length old - at - length t)
        ≡ taken (holds bytes' n') (drop (i + 1) block) (length old - at') =
        λ j. taken (sym hold j) (drop (sym (add-one i) j) block) (room-left j) in
        record {
          within = omega arith;
          wide = same ∙ d.wide;
          small = omega (arith, d.wide);
          so_far = one_more h block i g ∙ rw d.so_far (λ j. record { text = text j; held = sym hold j });
          tail =
              rw (to, now, drop_at head (drop (at + length t) out) (at + length t) m, ← drop-drop (length t) at out, d.tail)
              (drop-drop (length t) at old);
          left = omega (arith, d.left, next);
        }

    -- no more bytes are taken
    pub feed_end : taken (holds bytes n) (drop i block) (length old - at) ≡ 0
        → Feeds h block old (record { taken = i; held = n; wrote = at }) bytes out
    feed_end none =
        record {
          took = omega (arith, d.left);
          keeps = sym (ap (λ (a : After). a.held) d.so_far);
          wrote = rw d.so_far (sym (length-take-le at out (omega (arith, d.wide, d.small))));
          text = rw (d.so_far, ← d.tail) (sym (take-append-drop at out));
        }

-- before the first byte
pub feed_start : (bytes : List ℕ) (n : ℕ) (block out : List ℕ) → Feeding (holds bytes n) block out bytes out n 0 0
unfolding after_bytes
feed_start bytes n block out =
    record {
      within = omega arith;
      wide = refl;
      small = omega arith;
      so_far = refl;
      tail = refl;
      left = simp (unary_clauses, zero-add);
    }
