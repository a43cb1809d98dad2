-- `code_rows` meets its contract: each turn is a row of the definition. Assumes nothing.
use mathlib.Core.Path.{◌≡◌, sym, ap, ◌∙◌}
use Prim.Native.Nat.{◌+◌, ◌*◌, ◌≤◌}
use native.Mathlib.Omega.{arith}
use native.Mathlib.Nat.{mul-suc, mul-le-mul_left, add-sub_cancel_left}
use lib.ListN.{length, take, drop, length-drop}
use lib.Seq.{length-take-le}
use Rattle.columns.proofs.Turns.{more, same, stop, end}
use Rattle.columns.proofs.row_by_row.code_rows.Goals as goal

pub returns-in-Err-clause-value : goal.returns-in-Err-clause-value
returns-in-Err-clause-value g c =
    rw c.number.ensures (stop _ _ _ _ _ _ c.loop-i.invariant _ c.loop-i-test.true (rw (c.FROM-a.ensures, add-sub_cancel_left) at c.in-Err.ensures.0)).0

pub returns-in-Err-clause-output_after : goal.returns-in-Err-clause-output_after
returns-in-Err-clause-output_after g c =
    let m = c.loop-i.invariant in
    let kept = same _ _ _ _ _ _ m c.code.new.to (rw c.TO-b.ensures at c.in-Err.ensures.1) in
    rw c.TO-b.ensures (kept ∙ (stop _ _ _ _ _ _ m _ c.loop-i-test.true (rw (c.FROM-a.ensures, add-sub_cancel_left) at c.in-Err.ensures.0)).1)

pub loop-i-preserved : goal.loop-i-preserved
loop-i-preserved g c =
    let l = c.loop-i in
    let b = g.C.Coding.TO in
    let given = rw (c.FROM-a.ensures, add-sub_cancel_left) at c.in_default.ensures in
    let room : b * l.i + b ≤ length l.output = omega (arith, mul-le-mul_left b c.loop-i-test.true, mul-suc b l.i, l.invariant.long, c.requires.output_len) in
    let lent : length (take b (drop (b * l.i) l.output)) ≡ b = length-take-le b (drop (b * l.i) l.output) (omega (arith, length-drop (b * l.i) l.output, room)) in
    let kept : length c.code.new.to ≡ b = (rw (c.TO-b.ensures, add-sub_cancel_left) at c.code.auto.to) ∙ lent in
    rw c.TO-b.ensures (more _ _ _ _ _ _ l.invariant c.code.new.to c.loop-i-test.true c.requires.output_len given kept)

pub returns-clause-value : goal.returns-clause-value
returns-clause-value g c =
    let m = c.loop-i.invariant in
    let e : c.loop-i.i ≡ c.args.rows = omega (arith, m.within, c.loop-i-test.false) in
    ap (λ n. n * 16) (sym e) ∙ (end _ _ _ _ _ _ m c.loop-i-test.false).0

pub returns-clause-output_after : goal.returns-clause-output_after
returns-clause-output_after g c = (end _ _ _ _ _ _ c.loop-i.invariant c.loop-i-test.false).1
