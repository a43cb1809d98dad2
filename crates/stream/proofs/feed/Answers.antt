-- `stream::feed` meets its contract. The loop's invariant, `Feeding`: the bytes passed have gone through the stream,
-- and what is left to take is what the rest of the block says. Assumes nothing.
use Rattle.std.proofs.Common.{◌≡◌, length, arith}
use Rattle.stream.proofs.Feeding.{feed_start, feed_more, feed_end, taken_full, taken_all}
use Rattle.stream.proofs.feed.Goals as goal

pub loop-i-init : goal.loop-i-init
loop-i-init c = feed_start _ _ _ _

pub returns-then-out-at-lt-ROOM : goal.returns-then-out-at-lt-ROOM
returns-then-out-at-lt-ROOM c = feed_end _ _ _ c.loop-i.invariant (taken_full _ _ _ (omega arith))

pub loop-i-preserved : goal.loop-i-preserved
loop-i-preserved c =
    let fed = c.take_byte-step in
    feed_more _ _ _ c.loop-i.invariant c.loop-i-test.true (omega arith) fed.ensures.held_after
    (fed.ensures.next, fed.ensures.out_after) fed.auto.out

pub returns : goal.returns
returns c =
    let all : length c.args.block.now ≡ c.loop-i.i = omega arith in
    rw all (feed_end _ _ _ c.loop-i.invariant (taken_all _ _ _ _ c.loop-i-test.false))
