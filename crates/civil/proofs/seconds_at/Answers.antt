-- `seconds_at` meets its contract: the answer about the date, taken apart. Assumes nothing.
use mathlib.Core.Path.{◌≡◌, sym, ap, ◌∙◌}
use mir.Syntax.{w32, w64}
use mir.Val.{SFits, to_z, of_z}
use lib.IntN.{ℤ}
use native.Mathlib.Omega.{arith}
use mir.Facts.{to_z-of_z}
use Rattle.refusal.specs.Answers.{gives, answer_of}
use Rattle.gregorian.specs.Answers.{day_for}
use Rattle.day_time.specs.Answers.{seconds_on}
use Rattle.day_time.proofs.Days.{some_day, day_small}
use Rattle.civil.proofs.seconds_at.Goals as goal
use Rattle.civil.proofs.seconds_at.Goals.{In_ok-number}

-- the day number that is answered, and how small it is
given : (c : In_ok-number) → gives c.in_ok-number.number ≡ day_for c.args.year c.args.month c.args.day
given c = sym (ap answer_of c.in_ok-number.was) ∙ (rw (to_z-of_z c.ranges.year) at c.day_of.ensures)

small : (c : In_ok-number) → SFits w32 c.in_ok-number.number
small c = day_small c.args.year c.args.month c.args.day (given c)

-- it, as the machine reads it back
read : (z : ℤ) → SFits w32 z → to_z w64 (of_z w64 z) ≡ z
read z f = to_z-of_z {w = w64} (record { sfits = omega (arith, f.sfits) })

pub overflow_cast-number : goal.overflow_cast-number
overflow_cast-number c = rw (read c.in_ok-number.number (small c)) (small c)

pub returns : goal.returns
returns c =
    let s = c.args in
    let g = (goal.at.returns c).In_ok-number in
    let z = c.in_ok-number.number in
    c.seconds_on.ensures ∙ ap (λ z. seconds_on z s.hour s.minute s.second) (ap (λ z. to_z w32 (of_z w32 z)) (read z (small g)) ∙ to_z-of_z {w = w32} (small g))
    ∙ sym (some_day (record { year = s.year; month = s.month; day = s.day; hour = s.hour; minute = s.minute; second = s.second }) (given g))
