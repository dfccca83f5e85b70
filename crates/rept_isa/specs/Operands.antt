-- Which registers an instruction reads and writes, its kind, and which way a branch went (RISC-V
-- unprivileged manual 20191213, chapters 2.2, 2.4 to 2.6, 7 and 8; RISC-V psABI, for the register
-- of a call's answer).
use Rattle.std.specs.Prelude.{ℕ, ◌==◌, Bool, true, false, Option, Some, None, if◌then◌else◌}
use Rattle.rept_isa.specs.declared.instr.Instr.{Instr}
use Rattle.rept_isa.specs.declared.instr.Instr.TheVariants.{Lui, Auipc, Jal, Jalr, Branch, Load, Store, Imm, Op, Amo, Fence, Ecall, Ebreak, Counter}
use Rattle.rept_isa.specs.declared.instr.AmoOp.{AmoOp}
use Rattle.rept_isa.specs.declared.instr.AmoOp.TheVariants as atomic
use Rattle.rept_isa.specs.declared.row.StepRow.{StepRow}
use Rattle.rept_isa.specs.declared.class.Kind.{Kind}
use Rattle.rept_isa.specs.declared.class.Kind as kinds
use Rattle.rept_isa.specs.declared.class.Turn.{Turn}
use Rattle.rept_isa.specs.declared.class.Turn.TheVariants.{Taken, NotTaken, Either, NoBranch}
use Rattle.rept_isa.specs.Numbers.{plus, following}
use Rattle.rept_isa.specs.Rows.{Addresses, addresses_of}

-- a call into the kernel (RISC-V unprivileged manual 20191213, chapter 2.8)
abbrev pub is_call : Instr → Bool
is_call Ecall = true
is_call _ = false

-- a destination: x0 takes no value
abbrev pub unless_zero : ℕ → Option ℕ
unless_zero rd = if rd == 0 then None else Some rd

-- The register that is written. The answer of an environment call comes in x10 (a0).
abbrev pub written_by : Instr → Option ℕ
written_by (Lui rd imm) = unless_zero rd
written_by (Auipc rd imm) = unless_zero rd
written_by (Jal rd imm) = unless_zero rd
written_by (Jalr rd rs1 imm) = unless_zero rd
written_by (Branch op rs1 rs2 imm) = None
written_by (Load op rd rs1 imm) = unless_zero rd
written_by (Store op rs1 rs2 imm) = None
written_by (Imm op rd rs1 imm) = unless_zero rd
written_by (Op op rd rs1 rs2) = unless_zero rd
written_by (Amo op rd rs1 rs2) = unless_zero rd
written_by Fence = None
written_by Ecall = Some 10
written_by Ebreak = None
written_by (Counter rd csr) = unless_zero rd

-- the register in the place of rs1
abbrev pub first_read : Instr → Option ℕ
first_read (Jalr rd rs1 imm) = Some rs1
first_read (Branch op rs1 rs2 imm) = Some rs1
first_read (Load op rd rs1 imm) = Some rs1
first_read (Store op rs1 rs2 imm) = Some rs1
first_read (Imm op rd rs1 imm) = Some rs1
first_read (Op op rd rs1 rs2) = Some rs1
first_read (Amo op rd rs1 rs2) = Some rs1
first_read _ = None

-- the source of an atomic instruction
abbrev pub source_of : AmoOp → ℕ → Option ℕ
source_of atomic.Lr rs2 = None
source_of atomic.Sc rs2 = Some rs2
source_of atomic.Swap rs2 = Some rs2
source_of atomic.Add rs2 = Some rs2
source_of atomic.Xor rs2 = Some rs2
source_of atomic.And rs2 = Some rs2
source_of atomic.Or rs2 = Some rs2
source_of atomic.Min rs2 = Some rs2
source_of atomic.Max rs2 = Some rs2
source_of atomic.Minu rs2 = Some rs2
source_of atomic.Maxu rs2 = Some rs2

-- the register in the place of rs2
abbrev pub second_read : Instr → Option ℕ
second_read (Branch op rs1 rs2 imm) = Some rs2
second_read (Store op rs1 rs2 imm) = Some rs2
second_read (Op op rd rs1 rs2) = Some rs2
second_read (Amo op rd rs1 rs2) = source_of op rs2
second_read _ = None

-- The kind. A JALR from x0 goes to an address that its word gives; from any other register it is a
-- far jump.
abbrev pub kind_of : Instr → Kind
kind_of (Lui rd imm) = kinds.TheVariants.Plain
kind_of (Auipc rd imm) = kinds.TheVariants.Plain
kind_of (Jal rd imm) = kinds.TheVariants.Jump
kind_of (Jalr rd rs1 imm) = if rs1 == 0 then kinds.TheVariants.Jump else kinds.TheVariants.FarJump
kind_of (Branch op rs1 rs2 imm) = kinds.TheVariants.Branch
kind_of (Load op rd rs1 imm) = kinds.TheVariants.Load
kind_of (Store op rs1 rs2 imm) = kinds.TheVariants.Store
kind_of (Imm op rd rs1 imm) = kinds.TheVariants.Plain
kind_of (Op op rd rs1 rs2) = kinds.TheVariants.Plain
kind_of (Amo op rd rs1 rs2) = kinds.TheVariants.Plain
kind_of Fence = kinds.TheVariants.Plain
kind_of Ecall = kinds.TheVariants.Call
kind_of Ebreak = kinds.TheVariants.Stop
kind_of (Counter rd csr) = kinds.TheVariants.Counter

-- Which way a branch with this target went, which the instruction four bytes from an address
-- follows. Where both ways lead to one place, either.
abbrev pub way : ℕ → ℕ → ℕ → Turn
way from target next = if target == following from then Either else if next == target then Taken else if next == following from then NotTaken else NoBranch

abbrev pub turn_by : Instr → Addresses → Turn
turn_by (Branch op rs1 rs2 imm) a = way a.from (plus a.at imm) a.next
turn_by _ a = NoBranch

-- which way the row went, if it is one of a branch
abbrev pub turn_of : StepRow → Turn
turn_of row = turn_by row.instr (addresses_of row)
