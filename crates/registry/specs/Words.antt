-- What each of the sixteen words says, and the word of an instant, in the order of document 01. A word is its 64 bits.
use Rattle.std.specs.Prelude.{Bool, true, false, if◌then◌else◌, ℕ, ◌+◌, ◌*◌, ◌/◌, ◌%◌, ◌^◌, ◌==◌, nat_le, ℤ, pos, neg_ℤ, ◌-ℤ◌}
use Rattle.refusal.specs.Answers.{Answer, gives, refused}
use Rattle.instant.specs.Instants.{at}
use Rattle.instant.specs.Answers.{at_nanos, with_nanos}
use Rattle.instant.specs.declared.instants.Instant.{Instant}
use Rattle.day_time.specs.Answers.{seconds_for, fields_for}
use Rattle.day_time.specs.declared.times.Civil as civil
use Rattle.layouts.specs.Layouts.{layout_for}
use Rattle.layouts.specs.declared.layouts.Layout.{Layout}
use Rattle.layouts.specs.declared.kinds.Kind.TheVariants.{FatDos, ExFat, Dttm, BitDate, BitDec, Bcd, Moto, Symantec, Dvr, Ns40, Ns40Le, LogTime, SemiOctet, Gsm}
use Rattle.unpacking.specs.Reading.{read_by}
use Rattle.packing.specs.Writing.{write_fields}
use Rattle.counts.specs.Nokia.{nokia_decode, nokia_encode}
use Rattle.counts.specs.Sql.{sql_decode, sql_encode}
use Rattle.registry.specs.declared.rules.Rule.{Rule}
use Rattle.registry.specs.declared.rules.Rule.TheVariants.{Civil, NokiaLe, SqlServer}

-- ---- decoding

-- the seconds of fields, which may be refused
abbrev pub seconds_in : Answer civil.Civil → Answer ℤ
seconds_in (gives c) = seconds_for c
seconds_in (refused n) = refused n

-- the instant of a word's fields: 2 for a word out of range, 3 for fields that are not good
unfoldable pub local_decode : Layout → ℕ → Answer Instant
local_decode l w = at_nanos 0 (seconds_in (read_by l w))

-- a zone byte's quarter hours, bits 0..2 tens and the high nibble units, as seconds; bit 3 is the sign
abbrev pub zone_size : ℕ → ℕ
zone_size z = (z % 8 * 10 + z / 16) * 900

abbrev pub zone_seconds : ℕ → ℤ
zone_seconds z = if z / 8 % 2 == 0 then pos (zone_size z) else neg_ℤ (pos (zone_size z))

-- an instant less a zone; 4 for units above 9
unfoldable pub less_zone : ℕ → Instant → Answer Instant
less_zone z t = if nat_le (z / 16) 9 then gives (at (t.seconds -ℤ zone_seconds z) t.nanos) else refused 4

-- an instant in the zone z, where the layout has one, and as it is where not
abbrev pub in_zone : Bool → ℕ → Instant → Answer Instant
in_zone true z t = less_zone z t
in_zone false z t = gives t

-- the date is looked at before the zone
abbrev pub then_zone : Bool → ℕ → Answer Instant → Answer Instant
then_zone zoned z (gives t) = in_zone zoned z t
then_zone zoned z (refused n) = refused n

-- 1 to 14, by civil fields; the zone of 14 is the low byte
unfoldable pub fields_decode : Layout → ℕ → Answer Instant
fields_decode l w = then_zone l.zoned (w % 2 ^ 8) (local_decode l w)

abbrev pub decode_by : Rule → ℕ → Answer Instant
decode_by (Civil k) w = fields_decode (layout_for k) w
decode_by NokiaLe w = nokia_decode w
decode_by SqlServer w = sql_decode w

-- ---- encoding

-- 1 to 14, by civil fields: 9, then 6 and 7
unfoldable pub fields_encode : Layout → Instant → Answer ℤ
fields_encode l t = with_nanos t (write_fields l (fields_for t.seconds))

abbrev pub encode_by : Rule → Instant → Answer ℤ
encode_by (Civil k) t = fields_encode (layout_for k) t
encode_by NokiaLe t = nokia_encode t
encode_by SqlServer t = sql_encode t

-- ---- the layout number picks one of sixteen rules

unfoldable pub rule_for : ℕ → Answer Rule
rule_for n =
    if n == 1 then gives (Civil FatDos)
    else (if n == 2 then gives (Civil ExFat)
    else (if n == 3 then gives (Civil Dttm)
    else (if n == 4 then gives (Civil BitDate)
    else (if n == 5 then gives (Civil BitDec)
    else (if n == 6 then gives (Civil Bcd)
    else (if n == 7 then gives (Civil Moto)
    else (if n == 8 then gives (Civil Symantec)
    else (if n == 9 then gives (Civil Dvr)
    else (if n == 10 then gives (Civil Ns40)
    else (if n == 11 then gives (Civil Ns40Le)
    else (if n == 12 then gives (Civil LogTime)
    else (if n == 13 then gives (Civil SemiOctet)
    else (if n == 14 then gives (Civil Gsm)
    else (if n == 15 then gives NokiaLe
    else (if n == 16 then gives SqlServer
    else refused 1)))))))))))))))

abbrev pub decode_with : Answer Rule → ℕ → Answer Instant
decode_with (gives r) w = decode_by r w
decode_with (refused n) w = refused n

abbrev pub encode_with : Answer Rule → Instant → Answer ℤ
encode_with (gives r) t = encode_by r t
encode_with (refused n) t = refused n

-- the instant that a word of a layout says, and the word of an instant
abbrev pub decode_for : ℕ → ℕ → Answer Instant
decode_for n w = decode_with (rule_for n) w

abbrev pub encode_for : ℕ → Instant → Answer ℤ
encode_for n t = encode_with (rule_for n) t
