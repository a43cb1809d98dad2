-- `decimal::read::natural_in` meets its contract. The loop's invariant: what was read is below 10 to the number of its
-- digits, so it fits, and what is left to read behind it makes the whole text's number. Assumes nothing.
use Rattle.std.proofs.Common.{sym, ◌∙◌, arith}
use Rattle.decimal.proofs.Reading.{grown, other, more, end, empty, too_long, short}
use Rattle.decimal.proofs.read.natural_in.Goals as goal
use Rattle.decimal.proofs.read.natural_in.Goals.{then-is_empty-via-then-is_empty, then-is_empty-via-else-is_empty+then-text-gt19}

pub returns-then-is_empty : goal.returns-then-is_empty
returns-then-is_empty c =
    elim c.then-is_empty.branch [
      | then-is_empty-via-then-is_empty w ↦ empty _ (sym c.is_empty.ensures ∙ w.if-is_empty.true)
      | then-is_empty-via-else-is_empty+then-text-gt19 w ↦ too_long _ w.if-text-gt19.true
    ]

pub loop-b-init : goal.loop-b-init
loop-b-init c =
    record {
      short = omega arith;
      small = omega arith;
      so_far = short _ (sym c.is_empty.ensures ∙ c.if-is_empty.false) (omega arith);
    }

pub returns-then-not-is_ascii_digit : goal.returns-then-not-is_ascii_digit
returns-then-not-is_ascii_digit c =
    sym (c.loop-b.invariant.so_far ∙ other _ _ _ c.loop-b-test.true c.if-not-is_ascii_digit.ensures.cases)

pub loop-b-preserved : goal.loop-b-preserved
loop-b-preserved c =
    let digit = c.if-not-is_ascii_digit.ensures.cases in
    record {
      short = omega arith;
      small = grown _ _ c.from-digit.result c.loop-b.invariant.small (omega arith);
      so_far = c.loop-b.invariant.so_far ∙ more _ _ _ _ c.loop-b-test.true digit.0 digit.1 c.from-digit.ensures;
    }

pub returns : goal.returns
returns c = sym (c.loop-b.invariant.so_far ∙ end c.args.text.now c.loop-b.b-index _ c.loop-b-test.false)
