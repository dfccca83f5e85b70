-- The places that a store can have, where its base and its source are in sets and some bytes after
-- it are told (RISC-V unprivileged manual 20191213, chapter 2.6).
use Rattle.std.specs.Prelude.{◌≡◌, ℕ, ◌<◌, ℤ, Bool, true, false}
use Rattle.rept_isa.specs.declared.instr.Instr.{Instr}
use Rattle.rept_isa.specs.declared.instr.Instr.TheVariants.{Store, Amo, Ecall}
use Rattle.rept_isa.specs.Numbers.{plus, beside}
use Rattle.rept_machine.specs.Arithmetic.{byte_of}
use Rattle.rept_known.specs.declared.both.Both.{Both}
use Rattle.rept_known.specs.Both.{both_has}

-- each byte that is told of those from the first one on is that of the value
abbrev pub Leaves : (ℕ → ℕ → Type 0) → (first width value : ℕ) → Type 0
Leaves told first width value = (j x : ℕ) → j < width → told (beside first j) x → byte_of value j ≡ x

-- the byte at a is byte k of a store of so many bytes
pub record IsStorePlaced (base source : Both) (imm : ℤ) (width : ℕ) (told : ℕ → ℕ → Type 0) (a k : ℕ) : Type 0 where
  pub from : ℕ
  pub value : ℕ
  pub in_base : both_has base from ≡ true
  pub in_source : both_has source value ≡ true
  pub here : a ≡ beside (plus from imm) k
  pub left : Leaves told (plus from imm) width value

-- whether it writes memory, or calls the kernel, which may
abbrev pub names_bytes : Instr → Bool
names_bytes (Store op rs1 rs2 imm) = true
names_bytes (Amo op rd rs1 rs2) = true
names_bytes Ecall = true
names_bytes _ = false

-- an atomic instruction with this base
abbrev pub IsAtomicAt : Instr → ℕ → Type 0
IsAtomicAt (Amo op rd rs1 rs2) base = rs1 ≡ base
IsAtomicAt _ base = ⊥
