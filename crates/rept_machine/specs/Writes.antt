-- Which bytes a step writes, whatever they were before (RISC-V unprivileged manual 20191213,
-- chapters 2.6 and 8; for calls the table of calls).
use Rattle.std.specs.Prelude.{◌≡◌, ◌≢◌, ℕ, ◌<◌}
use Rattle.rept_isa.specs.declared.instr.Instr.{Instr}
use Rattle.rept_isa.specs.declared.instr.Instr.TheVariants.{Store, Amo, Ecall}
use Rattle.rept_isa.specs.declared.instr.AmoOp.{AmoOp}
use Rattle.rept_isa.specs.declared.instr.AmoOp.TheVariants as atomic
use Rattle.rept_isa.specs.Numbers.{plus, beside}
use Rattle.rept_machine.specs.Arithmetic.{store_width}
use Rattle.rept_machine.specs.Calls.{MayChange}
use Rattle.rept_machine.specs.State.{State}

-- one of so many bytes from base on
abbrev pub IsOneOfBytes : ℕ → ℕ → ℕ → Type 0
IsOneOfBytes base width a = (k : ℕ) × (k < width) × (a ≡ beside base k)

-- By the destination, the address and the registers after it: an LR writes none. An atomic memory
-- operation writes its word, and so does an SC, unless its register tells that it failed: 0 says
-- that it succeeded, and x0 says nothing (chapter 8.2).
abbrev pub WritesAtomic : AmoOp → ℕ → ℕ → (ℕ → ℕ) → ℕ → Type 0
WritesAtomic atomic.Lr rd base after a = ⊥
WritesAtomic atomic.Sc rd base after a = (rd ≢ 0 → after rd ≡ 0) × IsOneOfBytes base 4 a
WritesAtomic atomic.Swap rd base after a = IsOneOfBytes base 4 a
WritesAtomic atomic.Add rd base after a = IsOneOfBytes base 4 a
WritesAtomic atomic.Xor rd base after a = IsOneOfBytes base 4 a
WritesAtomic atomic.And rd base after a = IsOneOfBytes base 4 a
WritesAtomic atomic.Or rd base after a = IsOneOfBytes base 4 a
WritesAtomic atomic.Min rd base after a = IsOneOfBytes base 4 a
WritesAtomic atomic.Max rd base after a = IsOneOfBytes base 4 a
WritesAtomic atomic.Minu rd base after a = IsOneOfBytes base 4 a
WritesAtomic atomic.Maxu rd base after a = IsOneOfBytes base 4 a

-- A store writes each of its bytes. A call counts as writing each byte that its number and
-- arguments, and its answer, let it change, whether or not it changes it.
abbrev pub WritesBy : Instr → ℕ → State → State → ℕ → Type 0
WritesBy (Store op rs1 rs2 imm) image_end before after a = IsOneOfBytes (plus (before.register rs1) imm) (store_width op) a
WritesBy (Amo op rd rs1 rs2) image_end before after a = WritesAtomic op rd (before.register rs1) after.register a
WritesBy Ecall image_end before after a = MayChange image_end before.register (after.register 10) a
WritesBy _ image_end before after a = ⊥
