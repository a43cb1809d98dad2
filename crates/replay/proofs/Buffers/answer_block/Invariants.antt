-- Each turn takes some of what is left of the block.
use Prim.Native.Nat.{◌-◌}
use lib.ListN.{length}
use Rattle.replay.proofs.Buffers.answer_block.Given as goal

abbrev pub decreases-loop-from : goal.decreases-loop-from
decreases-loop-from g l = length l.block - l.from
