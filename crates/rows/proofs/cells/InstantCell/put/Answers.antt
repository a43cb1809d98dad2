-- `put` of an instant meets its contract: the seconds in front, and behind them the nanoseconds. Assumes nothing.
use borrow.Author.Rules.{rules}
use Prim.Native.Nat.{◌-◌}
use mathlib.Core.Path.{◌≡◌, sym, ap, ◌∙◌}
use native.Mathlib.Omega.{arith}
use lib.ListN.{length, take, drop, length-drop}
use lib.Seq.{length-take-le}
use mir.Syntax.{w64}
use mir.Val.{of_z}
use mir.Facts.{to_z-of_z}
use Rattle.octets.specs.Octets.{bytes_of}
use Rattle.octets.proofs.Promises.{many}
use Rattle.rows.specs.Cells.{instant_bytes}
use Rattle.rows.proofs.Tails.{put_tail, lent_tail}
use Rattle.rows.proofs.Over.{over_kept, over_placed}
use Rattle.rows.proofs.Promises.{row_lengths}
use Rattle.rows.proofs.cells.InstantCell.put.Goals as goal

pub returns-then-row-ne12 : goal.returns-then-row-ne12
returns-then-row-ne12 c =
    let s = c.args in
    sym (over_kept s.row.now (instant_bytes s.self) (row_lengths.0 s.self) c.if-row-ne12.true)

pub returns : goal.returns
returns c =
    let d = c.args.row.now in
    let t = c.args.self in
    let l8 : length (take 8 d) ≡ 8 = length-take-le 8 d (omega arith) in
    let l4 : length (drop 8 d) ≡ 4 = length-drop 8 d ∙ ap (λ n. n - 8) c.if-row-ne12.false in
    let p : c.put.new.dst ≡ bytes_of 8 (of_z w64 t.seconds) =
    rw (l8, c.to_bits.ensures, to_z-of_z {w = w64} {z = t.seconds} (search rules)) at c.put.ensures in
    let lp : length c.put.new.dst ≡ 8 = ap length p ∙ many 8 (of_z w64 t.seconds) in
    let q : c.put-2.new.dst ≡ bytes_of 4 t.nanos = rw (lent_tail c.put.new.dst (drop 8 d) 8 lp, l4) at c.put-2.ensures in
    put_tail c.put.new.dst (drop 8 d) c.put-2.new.dst 8 lp (ap length q ∙ many 4 t.nanos ∙ sym l4) ∙ cc (p, q)
    ∙ sym (over_placed d (instant_bytes t) (row_lengths.0 t) c.if-row-ne12.false)
