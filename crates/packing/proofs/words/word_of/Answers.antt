-- `word_of` meets its contract: the answer about the seconds, taken apart, and the packed bits. Assumes nothing.
use borrow.Author.Rules.{rules}
use mathlib.Core.Path.{◌≡◌, sym, ap, ◌∙◌}
use native.Mathlib.Omega.{arith}
use Prim.Native.Nat.{◌^◌, ◌<◌}
use mir.Syntax.{w64}
use mir.Facts.{to_z-of_z, to_z_pos}
use Rattle.refusal.specs.Answers.{gives, answer_of}
use Rattle.day_time.specs.Answers.{fields_for}
use Rattle.day_time.specs.Promises.{Ranged}
use Rattle.day_time.proofs.Answers.{ranged_fields}
use Rattle.layouts.specs.Layouts.{layout_for}
use Rattle.packing.specs.Writing.{write_fields}
use Rattle.packing.specs.Parts.{write_by}
use Rattle.packing.proofs.Packing.{as_word, its_word, in_word}
use Rattle.packing.proofs.Writable.{writable}
use Rattle.packing.proofs.words.word_of.Goals as goal
use Rattle.packing.proofs.words.word_of.Goals.{In_ok-c, In_ok-bits}

-- the civil time that the calendar gave
given : (c : In_ok-c) → gives c.in_ok-c.c ≡ fields_for c.args.seconds
given c = sym (ap answer_of c.in_ok-c.was) ∙ (rw (to_z-of_z c.ranges.seconds) at c.fields_of.ensures)

ranged : (c : In_ok-c) → Ranged c.in_ok-c.c
ranged c = ranged_fields c.args.seconds (given c)

pub write_kind-requires : goal.write_kind-requires
write_kind-requires c = ranged (goal.at.write_kind-requires c).In_ok-c

-- the bits that are written, which are a word
written : (c : In_ok-bits) → gives c.in_ok-bits.bits ≡ write_by (layout_for c.args.kind) c.in_ok-c.c
written c = sym (ap answer_of c.in_ok-bits.was) ∙ c.write_kind.ensures

small : (c : In_ok-bits) → c.in_ok-bits.bits < 2 ^ 63
small c =
    let k = c.args.kind in
    in_word (layout_for k) _ (writable k) (ranged (goal.at.overflow_cast-result c).In_ok-c) (written c)

pub returns-in_err-bits : goal.returns-in_err-bits
returns-in_err-bits c =
    let l = layout_for c.args.kind in
    let e = ap as_word c.in_err-bits.ensures ∙ its_word l _ ∙ ap (write_fields l) (given (goal.at.returns-in_err-bits c).In_ok-c) in
    search rules

pub overflow_cast-result : goal.overflow_cast-result
overflow_cast-result c = record { sfits = omega (arith, small (goal.at.overflow_cast-result c).In_ok-bits) }

pub returns : goal.returns
returns c =
    let l = layout_for c.args.kind in
    let p = (goal.at.returns c).In_ok-bits in
    ap gives (to_z_pos w64 {n = c.in_ok-bits.bits} (omega (arith, small p)))
    ∙ ap as_word (written p) ∙ its_word l _ ∙ ap (write_fields l) (given (goal.at.returns c).In_ok-c)
