-- `line_input::held::take_line` meets its contract. The loop's invariant, `Taking`: the bytes passed are held, and what is left
-- to take is what the rest of the block says. Assumes nothing.
use Rattle.std.proofs.Common.{arith}
use Rattle.line_input.proofs.FirstLf.{take_more, take_here, take_end}
use Rattle.line_input.proofs.held.take_line.Goals as goal

pub returns-then-b-eq10 : goal.returns-then-b-eq10
returns-then-b-eq10 c =
    rw (← c.from_on-rest.ensures) (take_here _ _ c.loop-i.invariant c.args.from c.loop-i-test.true c.if-b-eq10.true)

pub loop-i-preserved : goal.loop-i-preserved
loop-i-preserved c =
    let more = c.keep-len.ensures in
    take_more _ _ c.loop-i.invariant c.loop-i-test.true c.if-b-eq10.false more.value more.held_after

pub returns : goal.returns
returns c = rw (← c.from_on-rest.ensures) (take_end _ _ c.loop-i.invariant c.args.from (omega arith))
