-- The layouts 1 to 14, as document 01's table has them. A layout's bits, once its bytes are in order, are below `words`;
-- `last` is the last year that its encoder writes, and the first is what its year is stored less.
use Rattle.std.specs.Prelude.{Bool, true, false, ℕ, suc, ◌+◌, ◌-◌, ◌*◌, ◌^◌}
use Rattle.byte_orders.specs.declared.Order.{Order}
use Rattle.byte_orders.specs.declared.Order.TheVariants.{Straight, Reversed, YearSwapped}
use Rattle.layouts.specs.declared.layouts.Field.{Field}
use Rattle.layouts.specs.declared.layouts.Layout.{Layout}
use Rattle.layouts.specs.declared.layouts.Digits.{Digits}
use Rattle.layouts.specs.declared.layouts.Digits.TheVariants.{Bits, Pairs, SwappedPairs, SemiOctets}
use Rattle.layouts.specs.declared.kinds.Kind.{Kind}
use Rattle.layouts.specs.declared.kinds.Kind.TheVariants.{FatDos, ExFat, Dttm, BitDate, BitDec, Bcd, Moto, Symantec, Dvr, Ns40, Ns40Le, LogTime, SemiOctet, Gsm}

-- bits a to b, both included
abbrev pub bits : ℕ → ℕ → Field
bits a b = record { place = a; width = suc b - a; offset = 0; step = 1 }

-- the k-th byte, and the k-th pair of decimal digits, counted from 0 at the low end
abbrev pub byte : ℕ → Field
byte k = bits (8 * k) (8 * k + 7)

abbrev pub pair : ℕ → Field
pair k = record { place = k; width = 1; offset = 0; step = 1 }

-- a field whose value is stored less k: `less 1980 f` is the document's "year-1980"
abbrev pub less : ℕ → Field → Field
less k f = record { place = f.place; width = f.width; offset = k; step = f.step }

-- a field whose value is stored in twos: the document's "second/2"
abbrev pub halved : Field → Field
halved f = record { place = f.place; width = f.width; offset = f.offset; step = 2 }

-- no second: nothing is stored, and a minute is cut off whole
abbrev pub none : Field
none = record { place = 0; width = 0; offset = 0; step = 60 }

-- a row of the table: whether byte 0 is a zone, digits, order of bytes, words, last year, and then year, month, day, hour,
-- minute, second
abbrev pub row_with : Bool → Digits → Order → ℕ → ℕ → Field → Field → Field → Field → Field → Field → Layout
row_with z d o w last y mo da h mi s = record {
  digits = d;
  order = o;
  zoned = z;
  words = w;
  last = last;
  year = y;
  month = mo;
  day = da;
  hour = h;
  minute = mi;
  second = s;
}

-- a row without a zone
abbrev pub row : Digits → Order → ℕ → ℕ → Field → Field → Field → Field → Field → Field → Layout
row = row_with false

-- 1, 2: year-1980 25..31, month 21..24, day 16..20, hour 11..15, minute 5..10, second/2 0..4
abbrev pub fat_dos : Layout
fat_dos = row Bits Straight (2 ^ 32) 2107 (less 1980 (bits 25 31)) (bits 21 24) (bits 16 20) (bits 11 15) (bits 5 10) (halved (bits 0 4))

-- 3: year-1900 20..28, month 16..19, day 11..15, hour 6..10, minute 0..5
abbrev pub dttm : Layout
dttm = row Bits Straight (2 ^ 32) 2411 (less 1900 (bits 20 28)) (bits 16 19) (bits 11 15) (bits 6 10) (bits 0 5) none

-- 4: four bytes reversed, then year 20..31, the rest as 3
abbrev pub bit_date : Layout
bit_date = row Bits Reversed (2 ^ 32) 4095 (bits 20 31) (bits 16 19) (bits 11 15) (bits 6 10) (bits 0 5) none

-- 5: 0 or more; year from 20 up, at most 32,767, the rest as 3
abbrev pub bit_dec : Layout
bit_dec = row Bits Straight (2 ^ 35) 9999 (bits 20 34) (bits 16 19) (bits 11 15) (bits 6 10) (bits 0 5) none

-- 6: twelve decimal digits in pairs: year-2000, month, day, hour, minute, second
abbrev pub bcd : Layout
bcd = row Pairs Straight (10 ^ 12) 2099 (less 2000 (pair 5)) (pair 4) (pair 3) (pair 2) (pair 1) (pair 0)

-- 7: 48 bits, bytes from the top: year-1970, month, day, hour, minute, second
abbrev pub moto : Layout
moto = row Bits Straight (2 ^ 48) 2225 (less 1970 (byte 5)) (byte 4) (byte 3) (byte 2) (byte 1) (byte 0)

-- 8: as 7, the month stored less 1
abbrev pub symantec : Layout
symantec = row Bits Straight (2 ^ 48) 2225 (less 1970 (byte 5)) (less 1 (byte 4)) (byte 3) (byte 2) (byte 1) (byte 0)

-- 9: year-2000 26..31, month 22..25, day 17..21, hour 12..16, minute 6..11, second 0..5
abbrev pub dvr : Layout
dvr = row Bits Straight (2 ^ 32) 2063 (less 2000 (bits 26 31)) (bits 22 25) (bits 17 21) (bits 12 16) (bits 6 11) (bits 0 5)

-- 10: 56 bits; year 40..55, at most 32,767, then bytes down: month, day, hour, minute, second
abbrev pub ns40 : Layout
ns40 = row Bits Straight (2 ^ 55) 9999 (bits 40 55) (byte 4) (byte 3) (byte 2) (byte 1) (byte 0)

-- 11: as 10, the year's two bytes swapped
abbrev pub ns40_le : Layout
ns40_le = row Bits YearSwapped (2 ^ 55) 9999 (bits 40 55) (byte 4) (byte 3) (byte 2) (byte 1) (byte 0)

-- 12: 0 or more; year-1900 16..23, month 24..31, day 32..39, hour 40..47, minute 48..55, second 56..63
abbrev pub log_time : Layout
log_time = row Bits Straight (2 ^ 63) 2155 (less 1900 (bits 16 23)) (bits 24 31) (bits 32 39) (bits 40 47) (bits 48 55) (bits 56 63)

-- 13: as 6, the digits of each pair swapped
abbrev pub semi_octet : Layout
semi_octet = row SwappedPairs Straight (10 ^ 12) 2099 (less 2000 (pair 5)) (pair 4) (pair 3) (pair 2) (pair 1) (pair 0)

-- 14: 56 bits, bytes from the top: year-2000, month, day, hour, minute, second; the zone is in byte 0
abbrev pub gsm : Layout
gsm = row_with true SemiOctets Straight (2 ^ 56) 2099 (less 2000 (byte 6)) (byte 5) (byte 4) (byte 3) (byte 2) (byte 1)

-- the rows 1 to 14
abbrev pub layout_for : Kind → Layout
layout_for FatDos = fat_dos
layout_for ExFat = fat_dos
layout_for Dttm = dttm
layout_for BitDate = bit_date
layout_for BitDec = bit_dec
layout_for Bcd = bcd
layout_for Moto = moto
layout_for Symantec = symantec
layout_for Dvr = dvr
layout_for Ns40 = ns40
layout_for Ns40Le = ns40_le
layout_for LogTime = log_time
layout_for SemiOctet = semi_octet
layout_for Gsm = gsm

-- the two rows of decimal pairs, by whether their digits are swapped
abbrev pub pair_layout : Bool → Layout
pair_layout false = bcd
pair_layout true = semi_octet

-- what a place counts: a bit, or a pair of decimal digits
abbrev pub base : Digits → ℕ
base Bits = 2
base Pairs = 100
base SwappedPairs = 100
base SemiOctets = 2
