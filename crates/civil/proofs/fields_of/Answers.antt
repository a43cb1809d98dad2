-- `fields_of` meets its contract: by the two tests of the window, and the answer about the day, taken apart. Assumes nothing.
use borrow.Author.Rules.{rules}
use mathlib.Core.Path.{◌≡◌, sym, ap, ◌∙◌}
use mathlib.Core.Bool.{true}
use mir.Syntax.{w64}
use mir.Facts.{to_z-of_z}
use Rattle.refusal.specs.Answers.{gives, answer_of}
use Rattle.signed.specs.Floor.{floor_div}
use Rattle.gregorian.specs.Answers.{date_for}
use Rattle.day_time.specs.Times.{in_window, on_date}
use Rattle.day_time.proofs.Window.{window_good}
use Rattle.day_time.proofs.Days.{no_date, some_date}
use Rattle.civil.proofs.fields_of.Goals as goal
use Rattle.civil.proofs.fields_of.Goals.{After-date_of}

answered : (c : After-date_of) → answer_of c.date_of.result ≡ date_for (floor_div c.args.seconds 86400)
answered c =
    let n = to_z-of_z {w = w64} {z = c.day_and_passed-day.result.0} (search rules) ∙ (rw (to_z-of_z c.ranges.seconds) at c.day_and_passed-day.ensures.day) in
    c.date_of.ensures ∙ ap date_for n

good : (c : After-date_of) → in_window c.args.seconds ≡ true
good c =
    let f = to_z-of_z c.ranges.seconds in
    window_good c.args.seconds (rw f at c.if-seconds-lt-FIRST.false) (rw f at c.if-seconds-gt-LAST.false)

-- every second of the window has a date
pub returns-in_err-date : goal.returns-in_err-date
returns-in_err-date c =
    let d = (goal.at.returns-in_err-date c).After-date_of in
    absurd (no_date c.args.seconds (good d) (sym (ap answer_of c.in_err-date.was) ∙ answered d))

pub returns : goal.returns
returns c =
    let d = (goal.at.returns c).After-date_of in
    let t = rw (to_z-of_z c.ranges.seconds) at c.day_and_passed-day.ensures.passed in
    ap gives (c.on_date.ensures ∙ ap (on_date _) t) ∙ some_date c.args.seconds (good d) (sym (ap answer_of c.in_ok-date.was) ∙ answered d)
