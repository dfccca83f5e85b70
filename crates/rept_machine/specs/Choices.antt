-- What the machine picks where the manual leaves a choice (a call answers 0 and changes no byte, a
-- counter is 0, an SC succeeds), and which instructions have a step or write memory.
use Rattle.std.specs.Prelude.{◌≡◌, ◌≢◌}
use Rattle.rept_isa.specs.declared.instr.Instr.{Instr}
use Rattle.rept_isa.specs.declared.instr.Instr.TheVariants.{Store, Amo, Ecall, Ebreak, Counter}
use Rattle.rept_isa.specs.declared.instr.AmoOp.{AmoOp}
use Rattle.rept_isa.specs.declared.instr.AmoOp.TheVariants as atomic
use Rattle.rept_machine.specs.State.{State}
use Rattle.rept_machine.specs.Step.{SameMemory}

abbrev pub Picks : Instr → State → State → Type 0
Picks Ecall s t = (t.register 10 ≡ 0) × SameMemory s t
Picks (Counter rd csr) s t = rd ≢ 0 → t.register rd ≡ 0
Picks (Amo op rd rs1 rs2) s t = op ≡ atomic.Sc → rd ≢ 0 → t.register rd ≡ 0
Picks _ s t = Unit {0}

-- it has a step
abbrev pub IsRunnable : Instr → Type 0
IsRunnable Ebreak = ⊥
IsRunnable _ = Unit {0}

-- it writes memory
abbrev pub WritesMemory : Instr → Type 0
WritesMemory (Store op rs1 rs2 imm) = Unit {0}
WritesMemory (Amo op rd rs1 rs2) = op ≢ atomic.Lr
WritesMemory _ = ⊥
