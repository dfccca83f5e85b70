-- Where registers stand in tables by point. This project's own.
use Rattle.std.specs.Prelude.{ℕ, ◌+◌, ◌-◌, ◌*◌}

-- where a register other than x0 stands at a point: 31 registers a point
abbrev pub slot : ℕ → ℕ → ℕ
slot p r = p * 31 + (r - 1)
