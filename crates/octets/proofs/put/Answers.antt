-- `put` meets its contract: after the last turn no byte is to come. Assumes nothing.
use Rattle.std.proofs.Common.{arith}
use Rattle.octets.proofs.Parts.{no_more}
use Rattle.octets.proofs.put.Goals as goal

pub returns : goal.returns
returns c = no_more _ _ _ _ (omega arith) (omega arith) c.loop-byte.invariant
