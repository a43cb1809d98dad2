-- How long a reader goes on.
use Rattle.std.specs.Prelude.{ℕ, ◌-◌, if◌then◌else◌, ◌==◌}

-- the turns that are left after one whose block has k bytes
unfoldable pub left : ℕ → ℕ → ℕ
left turns k = if k == 0 then 0 else turns - 1
