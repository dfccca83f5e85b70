-- An example: two threads that go from one hart to another, the first one over an uninferable jump,
-- the second one into a call that returns on the first hart.
use Rattle.std.specs.Prelude.{ℕ, ◌+◌, ◌==◌, pos, true, false, List, [], ◌∷◌, Option, Some, None, if◌then◌else◌}
use Rattle.rept_isa.specs.declared.instr.Instr.TheVariants.{Jalr, Imm, Ecall}
use Rattle.rept_isa.specs.declared.instr.ImmOp.TheVariants.{Addi}
use Rattle.rept_isa.specs.declared.row.StepRow.{StepRow}
use Rattle.rept_steps.specs.declared.run.Run.{Run}
use Rattle.rept_steps.specs.declared.slice.Slice.{Slice}
use Rattle.rept_dump.specs.Memory.{Contents}
use Rattle.rept_streams.specs.Slices.Joins.{ThreadNote}
use Rattle.rept_encode.specs.declared.weaving.stretch.HartStretch.{HartStretch}

-- The code stands at 65536: two instructions that do nothing, a jump to where x6 points, a call,
-- and one that does nothing.
abbrev pub code_word : ℕ → Option ℕ
code_word a = if a == 65544 then Some 0x30067 else if a == 65548 then Some 0x73 else Some 0x13

abbrev pub code : Contents
code = record { word = code_word; half = λ a. None; kept = λ a. None; symbol = λ a. None; end = 0; mapped = false }

abbrev pub nothing : ℕ → StepRow
nothing a = record { at = a; instr = Imm Addi 0 0 (pos 0); next = a + 4; call = false; short = false }

abbrev pub jump : ℕ → StepRow
jump to = record { at = 65544; instr = Jalr 0 6 (pos 0); next = to; call = false; short = false }

abbrev pub call : StepRow
call = record { at = 65548; instr = Ecall; next = 65552; call = true; short = false }

-- a stretch of a thread from one time to another
abbrev pub stretch : ℕ → ℕ → ℕ → List StepRow → HartStretch
stretch process begin end rows = record { process = process; begin = begin; end = end; steps = rows }

-- what the first thread did
abbrev pub first_steps : List StepRow
first_steps = nothing 65536 ∷ nothing 65540 ∷ jump 65536 ∷ nothing 65536 ∷ []

abbrev pub harts : List (List HartStretch)
harts =
    (stretch 1 1 3 (nothing 65536 ∷ []) ∷ stretch 2 5 6 (nothing 65552 ∷ []) ∷ [])
    ∷ (stretch 2 1 4 (call ∷ []) ∷ stretch 1 5 9 (nothing 65540 ∷ jump 65536 ∷ nothing 65536 ∷ []) ∷ [])
    ∷ []

-- where the threads stopped
abbrev pub notes : List ThreadNote
notes = record { process = 1; pc = 65540 } ∷ record { process = 2; pc = 65556 } ∷ []

-- the rows of a slice: the number of its first one, and how many it has
pub record Rows : Type 0 where
  pub first : ℕ
  pub count : ℕ

abbrev pub rows : ℕ → ℕ → Rows
rows first count = record { first = first; count = count }

-- a slice of a stream, its times and its rows
abbrev pub slice : ℕ → ℕ → ℕ → Rows → Slice
slice stream begin end of = record { stream = stream; begin = begin; end = end; first = of.first; count = of.count }

abbrev pub run : Run
run = record {
  threads =
      record { steps = first_steps; slices = slice 0 1 3 (rows 0 1) ∷ slice 1 5 9 (rows 1 3) ∷ [] }
      ∷ record { steps = call ∷ nothing 65552 ∷ []; slices = slice 1 1 4 (rows 0 1) ∷ slice 0 5 6 (rows 1 1) ∷ [] }
      ∷ [];
  untraced = Some 1;
  skipped = 0;
}
