-- A call of `take_line` takes some of what is left of the block, where any is left.
use Rattle.std.proofs.Common.{◌≡◌, ◌+◌, ◌-◌, ◌<◌, ℕ, Bool, true, false, cond, eqb, List, [], ◌∷◌, length, drop, length-drop, arith}
use Rattle.line_input.specs.Held.{up_to_lf, before_lf, has_lf}
use Rattle.replay.proofs.Buffers.answer_block.Goals as goal

some_taken : (input : List ℕ) → 0 < length input → 0 < up_to_lf input
unfolding up_to_lf before_lf has_lf
some_taken [] h = absurd (omega (arith, h))
some_taken (b ∷ bs) h = by_byte (eqb b 10)
  where
    by_byte : (lf : Bool) → 0 < length (cond lf [] (b ∷ before_lf bs)) + cond (cond lf true (has_lf bs)) 1 0
    by_byte true = omega arith
    by_byte false = omega arith

-- so what is left behind it is less
fewer : (block : List ℕ) (from next : ℕ) → from < length block → next ≡ from + up_to_lf (drop from block) → length block - next < length block - from
fewer block from next h e = omega (arith, e, h, some_taken (drop from block) (omega (arith, length-drop from block, h)))

pub loop-from-smaller-in-Continue-1 : goal.loop-from-smaller-in-Continue-1
loop-from-smaller-in-Continue-1 g c = fewer c.args.block.now c.loop-from.from c.take_line-taken.result.next c.loop-from-test.true c.take_line-taken.ensures.next

pub loop-from-smaller : goal.loop-from-smaller
loop-from-smaller g c = fewer c.args.block.now c.loop-from.from c.take_line-taken.result.next c.loop-from-test.true c.take_line-taken.ensures.next
