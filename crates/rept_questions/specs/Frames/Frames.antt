-- The calls that a thread is in, told by how a return address is kept (RISC-V unprivileged manual,
-- chapter 2.5, "Unconditional Jumps", with x1 alone as the link register; how calls and returns are
-- matched is the project's own).
use Rattle.std.specs.Prelude.{ℕ, List, [], ◌∷◌, ◌++◌, Bool, false, ◌==◌, ◌&&◌, if◌then◌else◌}
use Rattle.std.specs.List.{before_last, fold}
use Rattle.rept_isa.specs.declared.instr.Instr.{Instr}
use Rattle.rept_isa.specs.declared.instr.Instr.TheVariants as instrs
use Rattle.rept_isa.specs.declared.row.StepRow.{StepRow}
use Rattle.rept_isa.specs.Numbers.{following}
use Rattle.rept_isa.specs.Rows.{from_of}
use Rattle.rept_questions.specs.declared.frames.frames.Frame.{Frame}

-- the instruction calls: JAL or JALR that keeps the address after it in x1
abbrev pub calls : Instr → Bool
calls (instrs.Jal rd imm) = rd == 1
calls (instrs.Jalr rd rs1 imm) = rd == 1
calls _ = false

-- the instruction returns: JALR from x1 that keeps no address, whatever its immediate
abbrev pub returns_by : Instr → Bool
returns_by (instrs.Jalr rd rs1 imm) = (rd == 0) && (rs1 == 1)
returns_by _ = false

-- the call of a row: where it stands, and where it is to go on
abbrev pub frame_of : StepRow → Frame
frame_of row = record { at = row.at; back = following (from_of row) }

-- the calls that are left after a return to an address: those before the last that is to go on
-- there; none without such a call
abbrev pub unwound : ℕ → List Frame → List Frame
unwound next frames = before_last (λ f. f.back == next) frames

-- the calls after a row, oldest first
abbrev pub after_row : List Frame → StepRow → List Frame
after_row frames row = if calls row.instr then frames ++ frame_of row ∷ [] else (if returns_by row.instr then unwound row.next frames else frames)

-- the calls that a thread is in after these rows, oldest first
abbrev pub frames_of : List StepRow → List Frame
frames_of rows = fold after_row [] rows
