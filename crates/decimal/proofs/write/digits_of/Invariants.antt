-- `decimal::write::digits_of` meets its contract. The loop's invariant: zeros stand up to `from`, and n's digits are
-- those of what is left and then the bytes behind `from`. Assumes nothing.
use Rattle.std.proofs.Common.{◌≡◌, ◌+◌, ◌^◌, ◌<◌, ◌≤◌, ◌++◌, length, drop, replicate}
use Rattle.decimal.specs.Write.{decimal_digits, show_nat}
use Rattle.decimal.proofs.write.digits_of.Given as goal

abbrev pub invariant-loop-left : goal.invariant-loop-left
invariant-loop-left l = (0 < l.from) × (l.from ≤ 19) × (l.left < 10 ^ l.from) × (length l.bytes ≡ 20)
    × (l.bytes ≡ replicate (l.from + 1) 0 ++ drop (l.from + 1) l.bytes) × (show_nat l.n ≡ decimal_digits l.from l.left ++ drop (l.from + 1) l.bytes)

abbrev pub decreases-loop-left : goal.decreases-loop-left
decreases-loop-left l = l.left
