-- `put` of an instant meets its contract: three texts, one behind another. Assumes nothing.
use borrow.Author.Rules.{rules}
use native.Mathlib.Omega.{arith}
use lib.ListN.{length-append}
use mir.Facts.{to_z-of_z, to_z_pos}
use mir.Syntax.{w64}
use Rattle.lines.specs.Answers.{instant_text}
use Rattle.lines.proofs.Texts.{puts_then, length_instant}
use lib.IntN.{pos}
use mathlib.Core.List.{[], ◌∷◌, ◌++◌}
use Rattle.decimal.specs.Write.{show_int}
use Rattle.lines.proofs.answers.InstantGiven.put.Goals as goal

pub returns : goal.returns
unfolding instant_text
returns c =
    let t = c.args.self in
    let e = to_z-of_z {w = w64} {z = t.seconds} (search rules) in
    let n = to_z_pos w64 {n = t.nanos} (search rules) in
    let head = show_int t.seconds ++ (32 ∷ []) in
    let last = show_int (pos t.nanos) in
    let out = c.args.out.now in
    let at = c.args.at in
    let first = c.put_number-space.ensures in
    let space = c.put-nanos.ensures in
    let second = c.put_number.ensures in
    let two = puts_then out at (show_int t.seconds) (32 ∷ []) (omega (arith, length_instant t, length-append head last)) (rw e at first.value, rw e at first.out_after) (space.value, space.out_after) in
    let all = puts_then out at head last (omega (arith, length_instant t)) two (rw n at second.value, rw n at second.out_after) in
    record { value = all.0; out_after = all.1 }
