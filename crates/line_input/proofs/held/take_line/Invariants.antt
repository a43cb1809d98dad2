-- `line_input::held::take_line` meets its contract. The loop's invariant, `Taking`: the bytes passed are held, and what is left
-- to take is what the rest of the block says. Assumes nothing.
use Rattle.line_input.specs.Held.{holds}
use Rattle.line_input.proofs.FirstLf.{Taking}
use Rattle.line_input.proofs.held.take_line.Given as goal

abbrev pub invariant-loop-i : goal.invariant-loop-i
invariant-loop-i l = Taking (holds l.initial.held l.n) l.rest l.held l.len l.i
