-- `get32` meets its contract: the library's sum of 4 bytes is their number. Assumes nothing.
use Rattle.octets.proofs.Parts.{first_number, whole_number}
use Rattle.octets.proofs.get32.Goals as goal

pub returns-in-Some : goal.returns-in-Some
returns-in-Some c = first_number 3 c.in-Some.ensures.cases c.from_le_bytes.ensures

pub returns-in-None : goal.returns-in-None
returns-in-None c = whole_number 3 _ _ c.in-None.ensures.cases c.padded.ensures.long c.padded.ensures.value c.from_le_bytes-in-None.ensures
