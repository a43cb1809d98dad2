-- How many rows a column of words and a column of instants have beside each other.
use Rattle.std.specs.Prelude.{ℕ, ◌/◌, ◌%◌, if◌then◌else◌, ◌&&◌, ◌==◌, nat_le}
use Rattle.refusal.specs.Answers.{Answer, gives, refused}

-- words in n bytes and instants in m bytes: 11 where one is not whole rows, or they have not as many; 13 where there are more than
-- 1,048,576
unfoldable pub rows_in : ℕ → ℕ → Answer ℕ
rows_in n m =
    if n % 8 == 0 && (m % 12 == 0 && m / 12 == n / 8) then (if nat_le (n / 8) 1048576 then gives (n / 8) else refused 13) else refused 11
