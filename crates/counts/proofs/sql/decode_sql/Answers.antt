-- `decode_sql` meets its contract: a day of 32 bits, so the sums fit. Assumes nothing.
use native.Mathlib.Omega.{arith}
use mathlib.Core.Path.{◌≡◌, sym, ◌∙◌, ap}
use Prim.Native.Nat.{◌/◌}
use lib.IntN.{pos}
use mir.Syntax.{w64}
use mir.Val.{to_z, of_z}
use mir.Facts.{to_z-of_z, to_z_pos}
use Rattle.counts.specs.Sql.{sql_day, sql_ticks}
use Rattle.counts.proofs.SqlDays.{seconds_fit, no_ticks, ticks}
use Rattle.refusal.specs.Answers.{gives}
use Rattle.counts.proofs.sql.decode_sql.Goals as goal

pub returns-then-ticks-ge25920000 : goal.returns-then-ticks-ge25920000
returns-then-ticks-ge25920000 c = sym (no_ticks c.args.bits c.if-ticks-ge25920000.true)

pub returns : goal.returns
returns c =
    let q = sql_ticks c.args.bits / 300 in
    let f = seconds_fit c.args.bits c.if-ticks-ge25920000.false in
    -- the day and the time of day, as the machine reads them back
    let day : to_z w64 (of_z w64 c.sign_extended-day.result) ≡ sql_day c.args.bits = to_z-of_z {w = w64} (record { sfits = c.sign_extended-day.type_inv }) ∙ c.sign_extended-day.ensures in
    let time : to_z w64 q ≡ pos q = to_z_pos w64 (omega arith) in
    ap gives (rw (day, to_z-of_z f.0, time, to_z-of_z f.1, to_z-of_z f.2) at c.new.ensures)
    ∙ sym (ticks c.args.bits c.if-ticks-ge25920000.false)
