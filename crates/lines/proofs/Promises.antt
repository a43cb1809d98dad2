-- The promises of specs/Promises: by the layout's number, and by the nanoseconds. Assumes nothing.
use Rattle.lines.specs.Answers.{answer_text}
use Rattle.lines.specs.Promises.{OneThenNine}
use Rattle.lines.proofs.Refusals.{no_rule, nine}

pub one_then_nine : OneThenNine
unfolding answer_text
one_then_nine = (
  λ layout word h. rw (no_rule layout h),
  λ layout seconds nanos h. rw (no_rule layout h),
  λ layout seconds nanos h k. rw (nine layout seconds nanos h k),
)
