-- `encode_sql` meets its contract: days and time of day are small, and are those from 1900. Assumes nothing.
use mathlib.Core.Path.{◌≡◌, sym, ◌∙◌}
use borrow.Author.Rules.{rules}
use native.Mathlib.Omega.{arith}
use lib.IntN.{pos, ◌+ℤ◌}
use mir.Syntax.{w64}
use mir.Val.{SFits, to_z, of_z}
use mir.Facts.{to_z-of_z}
use Rattle.signed.specs.Floor.{floor_div, floor_rem}
use Rattle.signed.proofs.Sizes.{sum_fits}
use Rattle.instant.proofs.Nanos.{no_nanos}
use Rattle.counts.specs.Sql.{sql_word, sql_encode}
use Rattle.counts.proofs.SqlDays.{since_1900, days_small}
use Rattle.counts.proofs.sql.encode_sql.Goals as goal

pub returns-then-nanos-gt-NANOS : goal.returns-then-nanos-gt-NANOS
unfolding sql_encode
returns-then-nanos-gt-NANOS c = let t = c.args.t in sym (no_nanos t (sql_word (t.seconds +ℤ pos 2208988800) t.nanos) c.if-nanos-gt-NANOS.true)

pub returns : goal.returns
returns c =
    let t = c.args.t in
    let s = t.seconds in
    let seconds_fit : SFits w64 s = search rules in
    -- the days from 1970, as the machine reads them back, and the time of day
    let days : to_z w64 (of_z w64 c.div_floor-day.result) ≡ floor_div s 86400 =
    to_z-of_z {w = w64} (record { sfits = c.div_floor-day.type_inv }) ∙ (rw (to_z-of_z seconds_fit) at c.div_floor-day.ensures) in
    let fit : SFits w64 (floor_div s 86400 +ℤ pos 25567) = sum_fits (floor_div s 86400) (pos 25567) (omega (arith, days_small s seconds_fit)) in
    let time : c.rem_floor.result ≡ floor_rem s 86400 = rw (to_z-of_z seconds_fit) at c.rem_floor.ensures in
    (rw (days, to_z-of_z fit, time) at c.roll.ensures) ∙ sym (since_1900 t c.if-nanos-gt-NANOS.false)
