-- The registers of one machine shared out among four threads: thread t has x18 + 3t to x20 + 3t,
-- all see x17 (a7), the number of a call, and a thread's others are 0. All see the same memory.
-- This project's own.
use Rattle.std.specs.Prelude.{ℕ, ◌+◌, ◌*◌, ◌<◌, ◌≤◌, nat_le, nat_lt, ◌&&◌, ◌||◌, ◌==◌, Bool, if◌then◌else◌}
use Rattle.rept_isa.specs.declared.instr.Instr.{Instr}
use Rattle.rept_isa.specs.declared.instr.Instr.TheVariants.{Load, Store, Imm, Op, Ecall}
use Rattle.rept_machine.specs.State.{State}
use Rattle.rept_order.specs.History.{World}

abbrev pub Owns : ℕ → ℕ → Type 0
Owns t r = (18 + 3 * t ≤ r) × (r < 21 + 3 * t)

abbrev pub owns : ℕ → ℕ → Bool
owns t r = nat_le (18 + 3 * t) r && nat_lt r (21 + 3 * t)

abbrev pub sees : ℕ → ℕ → Bool
sees t r = owns t r || r == 17

abbrev pub share_of : ℕ → State → (ℕ → ℕ)
share_of t s = λ r. if sees t r then s.register r else 0

-- what all threads see of a state of the machine
abbrev pub world_of : State → World
world_of s = record { register = λ t. share_of t s; memory = s.memory }

-- the instruction computes, loads or stores, with the thread's own registers alone, or is a call
abbrev pub UsesOwn : ℕ → Instr → Type 0
UsesOwn t (Imm op rd rs1 imm) = Owns t rd × Owns t rs1
UsesOwn t (Op op rd rs1 rs2) = Owns t rd × Owns t rs1 × Owns t rs2
UsesOwn t (Load op rd rs1 imm) = Owns t rd × Owns t rs1
UsesOwn t (Store op rs1 rs2 imm) = Owns t rs1 × Owns t rs2
UsesOwn t Ecall = Unit {0}
UsesOwn t _ = ⊥
