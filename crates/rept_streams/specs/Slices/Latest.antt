-- The latest time that packets of a stream have told, while their times are looked at one by one.
-- This project's own.
use Rattle.std.specs.Prelude.{ℕ, nat_lt, Option, Some, None, if◌then◌else◌}

-- the latest time after a packet of this time, if it is of one; none where it is of an earlier time
-- than this
abbrev pub latest_by : Option ℕ → ℕ → Option ℕ
latest_by None latest = Some latest
latest_by (Some time) latest = if nat_lt time latest then None else Some time
