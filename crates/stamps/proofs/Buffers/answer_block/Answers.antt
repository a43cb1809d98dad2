-- A call of `feed` takes some of what is left of the block, and no more, since `out` has room for an answer.
use Rattle.std.proofs.Common.{◌≡◌, ◌<◌, ◌≤◌, ℕ, Bool, false, eqb, List, length, sym, ◌∙◌, arith, rules, length-take, length-drop}
use borrow.Author.Tests.{eqb-false}
use Rattle.line_input.specs.Held.{Kept}
use Rattle.stream.specs.Stream.{taken}
use Rattle.stream.proofs.Promises.{progress}
use Rattle.stamps.proofs.Buffers.answer_block.Goals as goal

-- how many bytes that are, where `empty` says whether any is left
moves : (h : Kept) (rest : List ℕ) (room k : ℕ) (empty : Bool) → k ≡ taken h rest room → 48 ≤ room → empty ≡ eqb (length rest) 0
    → empty ≡ false → (0 < k) × (k ≤ length rest)
moves h rest room k empty took enough e f =
    let p = progress h rest room enough (omega (arith, eqb-false (length rest) 0 (sym e ∙ f))) in
    (omega (arith, p.0), omega (arith, p.1))

pub slice_bounds-rest-count : goal.slice_bounds-rest-count
slice_bounds-rest-count g c = (moves _ _ _ _ _ c.feed-fed.ensures.took (omega arith) c.is_empty.ensures c.loop-rest-test.true).1

pub slice_bounds-rest-start : goal.slice_bounds-rest-start
slice_bounds-rest-start g c =
    let moved = moves _ c.loop-rest.rest.now _ _ _ c.feed-fed.ensures.took (omega arith) c.is_empty.ensures c.loop-rest-test.true in
    let within = moved.1 in search rules

pub loop-rest-smaller : goal.loop-rest-smaller
loop-rest-smaller g c =
    let moved = moves _ c.loop-rest.rest.now _ _ _ c.feed-fed.ensures.took (omega arith) c.is_empty.ensures c.loop-rest-test.true in
    omega (arith, moved.0, moved.1, length-take {A = ℕ}, length-drop {A = ℕ})
