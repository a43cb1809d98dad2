-- What the composites in bytes may answer. It is proved in proofs/Promises.antt.
use Rattle.std.specs.Prelude.{List, ℕ}
use Rattle.instant.specs.Ranges.{GoodWithin}
use Rattle.byte_stamps.specs.OracleStamp.{oracle_date}
use Rattle.byte_stamps.specs.Cp56Stamp.{cp56}
use Rattle.byte_stamps.specs.UdfStamp.{udf_stamp}

-- a good instant, or a refusal under 3 to 10
abbrev pub ByteStampAnswers : Type 0
ByteStampAnswers = (stamp : List ℕ) → GoodWithin 3 10 (oracle_date stamp) × (GoodWithin 3 10 (cp56 stamp) × GoodWithin 3 10 (udf_stamp stamp))
