-- `stream::feed` meets its contract. The loop's invariant, `Feeding`: the bytes passed have gone through the stream,
-- and what is left to take is what the rest of the block says. Assumes nothing.
use Rattle.line_input.specs.Held.{holds}
use Rattle.stream.proofs.Feeding.{Feeding}
use Rattle.stream.proofs.feed.Given as goal

abbrev pub invariant-loop-i : goal.invariant-loop-i
invariant-loop-i l = Feeding (holds l.initial.held l.n) l.block l.initial.out l.held l.out l.len l.at l.i
