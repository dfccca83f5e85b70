-- What stands at an address of a program, and where a hart goes from there (RISC-V unprivileged
-- manual 20191213, chapters 1.5, 2.2,
-- 2.5, 2.8 and 16). An instruction whose next address its word alone doesn't tell is an uninferable
--   jump in the terms of Efficient Trace for RISC-V 2.0: JALR from any register but x0.
use Rattle.std.specs.Prelude.{ℕ, ◌+◌, ◌-◌, ◌%◌, ◌^◌, ◌==◌, List, Option, Some, None, is_some, Result, Ok, Err, Bool, true, false, if◌then◌else◌}
use Rattle.rept_dump.specs.Memory.{Contents}
use Rattle.rept_isa.specs.declared.instr.Instr.{Instr}
use Rattle.rept_isa.specs.declared.instr.Instr.TheVariants as instrs
use Rattle.rept_isa.specs.Numbers.{word, following}
use Rattle.rept_isa.specs.Rows.{from_at}
use Rattle.rept_isa.specs.Words.{opcode}
use Rattle.rept_isa.specs.Reading.{read_by}
use Rattle.rept_rvc.specs.Halves.{quadrant, function}
use Rattle.rept_rvc.specs.Reading as halves
use Rattle.rept_path.specs.declared.flow.Flow.{Flow}
use Rattle.rept_path.specs.declared.flow.Flow.TheVariants.{Plain, Branch, Jump, Fixed, Far, Call, Stop}
use Rattle.rept_path.specs.declared.fault.PathFault.{PathFault}
use Rattle.rept_path.specs.declared.fault.PathFault.TheVariants.{NotCode, NotRv32im, Unaligned}

-- the code of a program: what its files hold, and whether it may be compressed
pub record Code : Type 0 where
  pub contents : Contents
  pub halves : Bool

-- code of words alone
abbrev pub words : Contents → Code
words contents = record { contents = contents; halves = false }

-- a sum of addresses
abbrev pub sum : ℕ → ℕ → ℕ
sum a b = (a + b) % 2 ^ 32

-- the instruction that a word spells, if it spells one
abbrev pub instruction : ℕ → Option Instr
instruction spelled = read_by (opcode spelled) spelled

abbrev pub by_instruction : ℕ → ℕ → Option Instr → Result Instr PathFault
by_instruction a spelled None = Err (NotRv32im a spelled)
by_instruction a spelled (Some i) = Ok i

abbrev pub by_word : ℕ → Option ℕ → Result Instr PathFault
by_word a None = Err (NotCode a)
by_word a (Some spelled) = by_instruction a spelled (instruction spelled)

-- the instruction that a half stands for, if it stands for one
abbrev pub expansion : ℕ → Option Instr
expansion half = halves.read_by (quadrant half) (function half) half

-- an instruction of four bytes has 3 in the lowest two bits of its first half, and a compressed one
-- hasn't (chapter 1.5)
abbrev pub if_short : ℕ → Option ℕ
if_short half = if half % 4 == 3 then None else Some half

abbrev pub short_by : Option ℕ → Option ℕ
short_by None = None
short_by (Some half) = if_short half

-- the half at an address, where it is one of a compressed instruction
abbrev pub short_half : Code → ℕ → Option ℕ
short_half code a = if code.halves then short_by (code.contents.half a) else None

-- whether the instruction at an address takes two bytes
unfoldable pub is_short : Code → ℕ → Bool
is_short code a = is_some (short_half code a)

abbrev pub by_code : ℕ → Option ℕ → Option ℕ → Result Instr PathFault
by_code a (Some half) spelled = by_instruction a half (expansion half)
by_code a None spelled = by_word a spelled

-- positions are multiples of this
abbrev pub alignment : Code → ℕ
alignment code = if code.halves then 2 else 4

-- the instruction at an address, or why the path can't come there: it is no multiple of 4, or of 2
-- where code may be compressed; it holds no code; or the half of a compressed instruction, or else
-- the word, stands for no instruction. The half may be of another segment than the word.
unfoldable pub look : Code → ℕ → Result Instr PathFault
look code a = if a % alignment code == 0 then by_code a (short_half code a) (code.contents.word a) else Err (Unaligned a)

-- the address of the instruction that follows the one at an address
unfoldable pub after_instruction : Code → ℕ → ℕ
after_instruction code a = following (from_at a (is_short code a))

-- the even address at or below an address
abbrev pub even : ℕ → ℕ
even a = a - a % 2

-- where an instruction leads
abbrev pub flow_of : Instr → Flow
flow_of (instrs.Lui rd imm) = Plain
flow_of (instrs.Auipc rd imm) = Plain
flow_of (instrs.Jal rd imm) = Jump imm
flow_of (instrs.Jalr rd rs1 imm) = if rs1 == 0 then Fixed (even (word imm)) else Far
flow_of (instrs.Branch op rs1 rs2 imm) = Branch imm
flow_of (instrs.Load op rd rs1 imm) = Plain
flow_of (instrs.Store op rs1 rs2 imm) = Plain
flow_of (instrs.Imm op rd rs1 imm) = Plain
flow_of (instrs.Op op rd rs1 rs2) = Plain
flow_of (instrs.Amo op rd rs1 rs2) = Plain
flow_of instrs.Fence = Plain
flow_of instrs.Ecall = Call
flow_of instrs.Ebreak = Stop
flow_of (instrs.Counter rd csr) = Plain

abbrev pub branches : Flow → Bool
branches (Branch imm) = true
branches _ = false

abbrev pub jumps_far : Flow → Bool
jumps_far Far = true
jumps_far _ = false

abbrev pub branches_there : Result Instr PathFault → Bool
branches_there (Ok i) = branches (flow_of i)
branches_there (Err e) = false

abbrev pub calls_there : Result Instr PathFault → Bool
calls_there (Ok instrs.Ecall) = true
calls_there _ = false

-- whether a branch stands there
unfoldable pub is_branch : Code → ℕ → Bool
is_branch code a = branches_there (look code a)

-- 1 for a branch
abbrev pub branches_at : Code → ℕ → ℕ
branches_at code a = if is_branch code a then 1 else 0
