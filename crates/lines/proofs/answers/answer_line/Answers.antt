-- `lines::answers::answer_line` meets its contract: where there is room, the LF stands behind the answer. Assumes nothing.
use mathlib.Core.Path.{refl}
use mathlib.Core.List.{[], ◌∷◌}
use native.Mathlib.Omega.{arith}
use Rattle.lines.specs.Questions.{question_of}
use Rattle.lines.specs.Answers.{asked_text, line_text}
use Rattle.lines.proofs.Texts.{puts_then, in_room_lem, no_room, length_line}
use Rattle.lines.proofs.answers.answer_line.Goals as goal

pub returns-then-out-at : goal.returns-then-out-at
returns-then-out-at c =
    let a = c.args in
    rw (no_room a.out.now a.at _ (omega arith)) (record { value = refl; out_after = refl })

pub returns-then-out-at-lt-ROOM : goal.returns-then-out-at-lt-ROOM
returns-then-out-at-lt-ROOM c =
    let a = c.args in
    rw (no_room a.out.now a.at _ (omega arith)) (record { value = refl; out_after = refl })

pub returns : goal.returns
unfolding line_text
returns c =
    let a = c.args in
    let q = c.question_in in
    let text = asked_text (question_of a.line.now) in
    let answer = c.put_asked-end.ensures in
    let lf = c.put.ensures in
    let all = puts_then a.out.now a.at text (10 ∷ []) (omega (arith, length_line a.line.now)) (rw q.ensures at answer.value, rw q.ensures at answer.out_after) (lf.value, lf.out_after) in
    rw (in_room_lem a.out.now a.at _ (omega arith)) (record { value = all.0; out_after = all.1 })
