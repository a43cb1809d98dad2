-- `udf` meets its contract: the second that the calendar gives is small, and so are what is carried and the zone. Assumes nothing.
use Rattle.std.proofs.Common.{rules, ◌≡◌, ◌∙◌, sym, ap, arith, w64, to_z, of_z, to_z-of_z}
use Rattle.refusal.specs.Answers.{answer_of}
use Rattle.day_time.proofs.Answers.{small_seconds}
use Rattle.byte_stamps.specs.UdfStamp.{udf_fields}
use Rattle.byte_stamps.proofs.udf_stamp.udf.Goals as goal

pub moved-seconds-requires : goal.moved-seconds-requires
moved-seconds-requires c =
    let local = c.in-Ok-found.local in
    let zone = c.udf_minutes-zone in
    let said = sym (ap answer_of c.in-Ok-found.is) ∙ c.udf_seconds-found.ensures in
    let second : to_z w64 (of_z w64 local) ≡ local = to_z-of_z {w = w64} {z = local} (search rules) in
    let minutes : to_z w64 (of_z w64 zone.result) ≡ zone.result = to_z-of_z {w = w64} (record { sfits = zone.type_inv }) in
    (rw second (small_seconds (udf_fields c.in-Ok.stamp.now) said), omega (arith, c.udf_parts-parts.ensures.1), rw minutes zone.ensures.1)
