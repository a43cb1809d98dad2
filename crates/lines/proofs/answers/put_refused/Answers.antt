-- `lines::answers::put_refused` meets its contract: the number stands behind the word. Assumes nothing.
use native.Mathlib.Omega.{arith}
use lib.IntN.{pos}
use mathlib.Core.Path.{ap, ◌∙◌}
use mir.Facts.{to_z_pos}
use mir.Val.{to_z}
use mir.Syntax.{w64}
use Rattle.refusal.specs.Answers.{refusal_number}
use Rattle.decimal.specs.Write.{show_int}
use Rattle.lines.specs.Answers.{refused_text}
use Rattle.lines.proofs.Texts.{puts_then, length_refused}
use Rattle.lines.proofs.answers.put_refused.Goals as goal

pub returns : goal.returns
unfolding refused_text
returns c =
    let n = refusal_number c.args.why in
    let e = ap (to_z w64) c.number.ensures ∙ to_z_pos w64 {n = n} (omega (arith, c.number.type_inv, c.number.ensures)) in
    let word = c.put-to.ensures in
    let number = c.put_number.ensures in
    let all = puts_then c.args.out.now c.args.at _ (show_int (pos n)) (omega (arith, length_refused n)) (word.value, word.out_after) (rw e at number.value, rw e at number.out_after) in
    record { value = all.0; out_after = all.1 }
