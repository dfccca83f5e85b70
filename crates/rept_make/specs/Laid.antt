-- A memory laid over the bytes of a program: where the program's code stands it has those bytes,
-- elsewhere what it had.
use Rattle.std.specs.Prelude.{ℕ, ◌-◌, List, slice_index, nat_le, nat_lt, ◌&&◌, if◌then◌else◌}
use Rattle.rept_machine.specs.State.{State}

abbrev pub laid_byte : List ℕ → ℕ → ℕ → ℕ
laid_byte body a byte = if nat_le 65536 a && nat_lt a 66560 then slice_index body (a - 65536) else byte

abbrev pub laid : List ℕ → State → State
laid body s = record { register = s.register; memory = λ a. laid_byte body a (s.memory a) }
