-- What a conclusion of a row rests on, in the rule's order. Registers come first, then bytes by
-- rising address; each once; x0 is left out, since it is known without any fact. This project's
-- own.
use Rattle.std.specs.Prelude.{ℕ, suc, zero, ◌==◌, ℤ, Bool, false, if◌then◌else◌, Option, Some, None, List, [], ◌∷◌, ◌++◌}
use Rattle.rept_isa.specs.declared.instr.Instr.{Instr}
use Rattle.rept_isa.specs.declared.instr.Instr.TheVariants.{Lui, Auipc, Jal, Jalr, Branch, Load, Store, Imm, Op, Amo, Fence, Ecall, Ebreak, Counter}
use Rattle.rept_isa.specs.declared.instr.LoadOp.{LoadOp}
use Rattle.rept_isa.specs.declared.instr.RegOp.{RegOp}
use Rattle.rept_isa.specs.declared.instr.ImmOp.{ImmOp}
use Rattle.rept_isa.specs.Numbers.{word, plus, beside}
use Rattle.rept_partial.specs.declared.flat.Flat.{Flat}
use Rattle.rept_partial.specs.declared.flat.Flat.TheVariants.{Unknown, Known}
use Rattle.rept_machine.specs.Arithmetic.{register_form}
use Rattle.rept_reason.specs.declared.fact.Cell.{Cell}
use Rattle.rept_reason.specs.declared.fact.Cell.TheVariants.{Register, Byte}
use Rattle.rept_reason.specs.declared.view.inferred.When.{When}
use Rattle.rept_reason.specs.declared.view.inferred.When.TheVariants.{Before, After}
use Rattle.rept_reason.specs.declared.view.inferred.Conclusion.{Conclusion}
use Rattle.rept_reason.specs.declared.view.inferred.Premise.{Premise}
use Rattle.rept_reason.specs.View.Seen.{Seen}
use Rattle.rept_rules.specs.Results.{operand, absorbs, cancels}
use Rattle.rept_rules.specs.Operands.{copied_register}
use Rattle.rept_rules.specs.Conclusions.{load_width}
use Rattle.rept_rules.specs.Listing.{known_at}

-- a register, unless it is x0
abbrev pub register_need : When → ℕ → List Premise
register_need when r = if r == 0 then [] else record { when = when; cell = Register r } ∷ []

-- two registers before the row
abbrev pub both_needs : ℕ → ℕ → List Premise
both_needs r q = if r == q then register_need Before r else register_need Before r ++ register_need Before q

-- so many bytes from a base on
abbrev pub byte_needs : When → ℕ → ℕ → List Premise
byte_needs when base zero = []
byte_needs when base (suc k) = byte_needs when base k ++ record { when = when; cell = Byte (beside base k) } ∷ []

abbrev pub known_byte_needs : When → Flat → ℤ → ℕ → List Premise
known_byte_needs when Unknown imm width = []
known_byte_needs when (Known b) imm width = byte_needs when (plus b imm) width

-- whether an operand decides the result alone
abbrev pub decides : RegOp → Flat → Bool
decides op Unknown = false
decides op (Known a) = absorbs op a

-- the result of two registers: none where they cancel, the one that decides, or both
abbrev pub result_needs : RegOp → ℕ → ℕ → Seen → List Premise
result_needs op rs1 rs2 s =
    if cancels op rs1 rs2 then []
    else if decides op (operand rs1 (known_at s Before rs1)) then register_need Before rs1
    else if decides op (operand rs2 (known_at s Before rs2)) then register_need Before rs2
    else both_needs rs1 rs2

-- of two registers the one that the conclusion isn't on
abbrev pub other_register : Cell → ℕ → ℕ → ℕ
other_register (Register r) rs1 rs2 = if r == rs1 then rs2 else rs1
other_register (Byte a) rs1 rs2 = rs1

-- the source of a copy, before the row
abbrev pub source_need : Option ℕ → List Premise
source_need None = []
source_need (Some source) = register_need Before source

-- by the moment of the conclusion
abbrev pub by_when : When → List Premise → List Premise → List Premise
by_when Before before after = before
by_when After before after = after

-- an operation with an immediate: its result (7); a copy after the row (18); the operand of a copy
-- (18) or of a sum or XOR (10, 12) before it
abbrev pub immediate_needs : ImmOp → ℕ → ℕ → ℤ → Conclusion → List Premise
immediate_needs op rd rs1 imm d = if d.rule == 7 then (if absorbs (register_form op) (word imm) then [] else register_need Before rs1) else by_when d.when (register_need After rd) (register_need Before rs1)

abbrev pub copy_needs : When → ℕ → Option ℕ → List Premise
copy_needs when rd source = by_when when (register_need After rd) (source_need source)

-- an operation on registers: its result (7); a copy and its source (18); an operand from the result
-- and the other one (10 to 13)
abbrev pub operation_needs : RegOp → ℕ → ℕ → ℕ → Seen → Conclusion → List Premise
operation_needs op rd rs1 rs2 s d = if d.rule == 7 then result_needs op rs1 rs2 s else if d.rule == 18 then copy_needs d.when rd (copied_register op rs1 rs2) else register_need After rd ++ register_need Before (other_register d.cell rs1 rs2)

-- a byte before the row (15), or the loaded value (8)
abbrev pub load_needs : LoadOp → ℕ → ℕ → ℤ → Seen → When → List Premise
load_needs op rd rs1 imm s when = by_when when (register_need After rd ++ register_need Before rs1) (register_need Before rs1 ++ known_byte_needs Before (known_at s Before rs1) imm (load_width op))

-- the source of a stored word (16), or a byte after the row (9)
abbrev pub store_needs : ℕ → ℕ → ℤ → Seen → When → List Premise
store_needs rs1 rs2 imm s when = by_when when (register_need Before rs1 ++ known_byte_needs After (known_at s Before rs1) imm 4) (both_needs rs1 rs2)

abbrev pub needs_of : Instr → Seen → Conclusion → List Premise
needs_of (Imm op rd rs1 imm) s d = immediate_needs op rd rs1 imm d
needs_of (Op op rd rs1 rs2) s d = operation_needs op rd rs1 rs2 s d
-- the other operand (14)
needs_of (Branch op rs1 rs2 imm) s d = register_need Before (other_register d.cell rs1 rs2)
needs_of (Load op rd rs1 imm) s d = load_needs op rd rs1 imm s d.when
needs_of (Store op rs1 rs2 imm) s d = store_needs rs1 rs2 imm s d.when
needs_of (Lui rd imm) s d = []
needs_of (Auipc rd imm) s d = []
needs_of (Jal rd imm) s d = []
needs_of (Jalr rd rs1 imm) s d = []
needs_of (Amo op rd rs1 rs2) s d = []
needs_of Fence s d = []
needs_of Ecall s d = []
needs_of Ebreak s d = []
needs_of (Counter rd csr) s d = []
