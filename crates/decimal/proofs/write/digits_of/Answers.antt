-- `decimal::write::digits_of` meets its contract. The loop's invariant: zeros stand up to `from`, and n's digits are
-- those of what is left and then the bytes behind `from`. Assumes nothing.
use Rattle.std.proofs.Common.{◌≡◌, ◌+◌, ◌-◌, ◌%◌, drop, sym, refl, ◌∙◌, append-nil, arith, length-set}
use Rattle.decimal.specs.Write.{decimal_digits, show_nat}
use Rattle.decimal.proofs.Writing.{down_more, down_last, down_tenth, two_left}
use Rattle.decimal.proofs.AtEnd.{still_zeros, drop_set, set_zero, stands}
use Rattle.decimal.proofs.write.digits_of.Goals as goal

pub loop-left-init : goal.loop-left-init
unfolding show_nat
loop-left-init c = (omega arith, omega arith, omega arith, refl, refl, sym (append-nil (decimal_digits 19 c.args.n)))

pub loop-left-preserved : goal.loop-left-preserved
loop-left-preserved c =
    let l = c.loop-left in
    let inv = l.invariant in
    let two = two_left l.from l.left c.loop-left-test.true inv.2 in
    let e : l.from - 1 + 1 ≡ l.from = omega arith in (
      omega arith,
      omega arith,
      down_tenth l.from l.left inv.0 inv.2,
      simp length-set inv.3,
      rw e (still_zeros l.bytes l.from _ inv.4),
      rw (e, drop_set l.bytes l.from (48 + l.left % 10) inv.4) (inv.5 ∙ down_more l.from l.left _ inv.0 c.loop-left-test.true),
    )

pub returns : goal.returns
returns c =
    let l = c.loop-left in
    let inv = l.invariant in
    let e = inv.5 ∙ down_last l.from l.left (drop (l.from + 1) l.bytes) inv.0 (omega arith) in
    stands (show_nat c.args.n) (simp length-set inv.3) (set_zero l.bytes l.from (48 + l.left) inv.4 ∙ rw e)
