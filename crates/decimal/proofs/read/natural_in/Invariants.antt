-- `decimal::read::natural_in` meets its contract. The loop's invariant: what was read is below 10 to the number of its
-- digits, so it fits, and what is left to read behind it makes the whole text's number. Assumes nothing.
use Rattle.std.proofs.Common.{◌≡◌, ◌^◌, ◌<◌, ◌≤◌, length, drop}
use Rattle.decimal.specs.Read.{behind, natural_of}
use Rattle.decimal.proofs.read.natural_in.Given as goal

abbrev pub invariant-loop-b : goal.invariant-loop-b
invariant-loop-b l = record {
  short : length l.text ≤ 19;
  small : l.value < 10 ^ l.b-index;
  so_far : natural_of l.text ≡ behind l.value (drop l.b-index l.text);
}
