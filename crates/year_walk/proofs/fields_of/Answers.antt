-- `fields_of` meets its contract: by the two tests of the window, in which each second is one of a day. Assumes nothing.
use mathlib.Core.Path.{◌≡◌, ap, ◌∙◌}
use mathlib.Core.Bool.{true}
use mir.Syntax.{w64}
use mir.Val.{to_z, of_z}
use mir.Facts.{to_z-of_z}
use Rattle.refusal.specs.Answers.{gives}
use Rattle.signed.specs.Floor.{floor_div}
use Rattle.gregorian.specs.Dates.{date_at}
use Rattle.day_time.specs.Times.{in_window, on_date}
use Rattle.day_time.proofs.Window.{window_good}
use Rattle.day_time.proofs.Days.{window_day, some_date}
use Rattle.year_walk.proofs.fields_of.Goals as goal
use Rattle.year_walk.proofs.fields_of.Goals.{After-div_floor}

-- the day's number, as the machine reads it back
day : (c : After-div_floor) → to_z w64 (of_z w64 c.div_floor.result) ≡ floor_div c.args.seconds 86400
day c =
    to_z-of_z {w = w64} (record { sfits = c.div_floor.type_inv })
    ∙ (rw (to_z-of_z c.ranges.seconds) at c.div_floor.ensures)

good : (c : After-div_floor) → in_window c.args.seconds ≡ true
good c =
    let f = to_z-of_z c.ranges.seconds in
    window_good c.args.seconds (rw f at c.if-seconds-lt-FIRST.false) (rw f at c.if-seconds-gt-LAST.false)

pub date_of-date-requires : goal.date_of-date-requires
date_of-date-requires c = rw (day c) (window_day c.args.seconds (good c))

pub returns : goal.returns
returns c =
    let f = (goal.at.returns c).After-div_floor in
    let w = good f in
    let d = c.date_of-date.ensures ∙ ap date_at (day f) in
    let t = rw (to_z-of_z c.ranges.seconds) at c.rem_floor.ensures in
    ap gives (c.on_date.ensures ∙ (λ i. on_date (d i) (t i))) ∙ some_date c.args.seconds w (rw (window_day c.args.seconds w))
