-- Each turn takes some of what is left of the block, and no more.
use Rattle.std.proofs.Common.{length}
use Rattle.stamps.proofs.Buffers.answer_block.Given as goal

abbrev pub decreases-loop-rest : goal.decreases-loop-rest
decreases-loop-rest g l = length l.rest
