-- What the lines of `lost` and `from` claim of an execution. HEX below is `0x` and eight lower-case
-- hexadecimal digits. This project's own.
use Rattle.std.specs.Prelude.{◌≡◌, ◌⊎◌, ℕ, ◌<◌, ◌^◌, List, [], ◌∷◌, ◌++◌, Bool, Option, None, Some, slice_get, codes, if◌then◌else◌}
use Rattle.std.specs.List.{Contains, flat_map}
use Rattle.rept_isa.specs.declared.instr.Instr.{Instr}
use Rattle.rept_isa.specs.declared.row.StepRow.{StepRow}
use Rattle.rept_isa.specs.Operands.{is_call}
use Rattle.rept_word.specs.Hex.{hex_word}
use Rattle.rept_steps.specs.Course.{row_of}
use Rattle.rept_order.specs.Writers.{Writer}
use Rattle.rept_order.specs.Writers.Writer.{writes}
use Rattle.rept_findings.specs.Shown.{Shown}
use Rattle.rept_findings.specs.Texts.{at}
use Rattle.rept_findings.specs.declared.place.ThreadPoint.{ThreadPoint}
use Rattle.rept_questions.specs.Lost.{lacked}
use Rattle.rept_questions.specs.Texts.{call_text, more_line, register_end, start_line}
use Rattle.rept_questions.specs.Trail.{bytes_from, is_constant, loaded, register_source, registers_read}
use Rattle.rept_session.specs.Session.{IsDivided}
use Rattle.rept_app.specs.TrueSteps.{AreParts, IsStepTrue, address_in}
use Rattle.rept_app.specs.TrueValues.{AreBytesTrue, IsRegisterLineTrue, IsWriterLineTrue, PointHeld, last_writer_text}

-- `back ` or `onward `, the line of a step, and what it lacks, which claims nothing
abbrev pub IsLostRowTrue : (ThreadPoint → PointHeld) → Shown → List ℕ → ThreadPoint → Option StepRow → List ℕ → Type 0
IsLostRowTrue held s side c None text = text ≡ []
IsLostRowTrue held s side c (Some row) text = (step : List ℕ) × (r : Option ℕ) × (a : Option ℕ) × IsStepTrue held s c row step × (text ≡ side ++ step ++ lacked r a ++ 10 ∷ [])

abbrev pub IsLostStepTrue : (ThreadPoint → PointHeld) → Shown → List ℕ → ℕ → Option ℕ → List ℕ → Type 0
IsLostStepTrue held s side thread None text = text ≡ side ++ codes "none" ++ 10 ∷ []
IsLostStepTrue held s side thread (Some j) text = IsLostRowTrue held s side (at thread j) (slice_get (s.rows thread) j) text

-- the two steps of a value that isn't known
pub record AreLostLinesTrue (held : ThreadPoint → PointHeld) (s : Shown) (thread : ℕ) (text : List ℕ) : Type 0 where
  pub back : Option ℕ
  pub onward : Option ℕ
  pub lines : IsDivided text (IsLostStepTrue held s (codes "back ") thread back) (IsLostStepTrue held s (codes "onward ") thread onward)

-- `lost` of a register or of a byte: the line of `reg` or of `mem`, or those of the two steps
abbrev pub IsLostRegisterTrue : (ThreadPoint → PointHeld) → Shown → ThreadPoint → ℕ → List ℕ → Type 0
IsLostRegisterTrue held s c r text = IsRegisterLineTrue (held c) r text ⊎ AreLostLinesTrue held s c.thread text

abbrev pub IsLostByteTrue : (ThreadPoint → PointHeld) → Shown → ThreadPoint → ℕ → List ℕ → Type 0
IsLostByteTrue held s c a text = AreBytesTrue (held c) a 1 text ⊎ AreLostLinesTrue held s c.thread text

-- the bytes that an instruction loads, by the values of registers
abbrev pub bytes_loaded : (ℕ → ℕ) → Instr → List ℕ
bytes_loaded register instr = bytes_from (loaded instr) (address_in register instr)

-- Step k of a thread is a source of its step j: of the steps before j it was the last to write a
-- register that goes into what j writes, or in the execution the last to write a byte that j loads.
abbrev pub IsSource : (ThreadPoint → PointHeld) → Shown → ℕ → ℕ → ℕ → Type 0
IsSource held s thread j k = (row : StepRow) × (slice_get (s.rows thread) j ≡ Some row)
    × (((r : ℕ) × Contains (registers_read row.instr) r × (register_source (s.rows thread) j r ≡ Some k))
    ⊎ ((a : ℕ) × Contains (bytes_loaded (held (at thread j)).register row.instr) a × (held (at thread j)).last_writer a (writes (row_of thread k))))

-- steps that lead from a first one to this one, each of them a source of the one before it
abbrev pub AreLinks : (ThreadPoint → PointHeld) → Shown → ℕ → ℕ → List ℕ → ℕ → Type 0
AreLinks held s thread first [] k = k ≡ first
AreLinks held s thread first (j ∷ js) k = IsSource held s thread j k × AreLinks held s thread first js j

-- ` HEX` and the last writer of a byte that the step loads, as `writer` tells it; or nothing
abbrev pub IsByteEndTrue : (ThreadPoint → PointHeld) → Shown → ThreadPoint → Instr → List ℕ → Type 0
IsByteEndTrue held s c instr text =
    (text ≡ [])
    ⊎ ((a : ℕ) × (w : Writer) × Contains (bytes_loaded (held c).register instr) a × (held c).last_writer a w × (text ≡ codes " " ++ hex_word a ++ codes " " ++ last_writer_text s.threads w))

-- ` call N` or ` call unknown`, of a call; ` constant`
abbrev pub leaf_told : Option ℕ → Instr → List ℕ
leaf_told number instr = if is_call instr then call_text number else if is_constant instr then codes " constant" else []

-- A line of `from`: links lead to this step from the first one, the values are as `at` tells them,
-- the byte's last writer is so, and x17 has the number of the call. ` xN start of the path` is the
-- path's.
pub record IsTrailStepTrue (held : ThreadPoint → PointHeld) (s : Shown) (thread first j : ℕ) (row : StepRow) (text : List ℕ) : Type 0 where
  pub from : List ℕ
  pub links : AreLinks held s thread first from j
  pub step : List ℕ
  pub values : IsStepTrue held s (at thread j) row step
  pub byte : List ℕ
  pub byte_end : IsByteEndTrue held s (at thread j) row.instr byte
  pub call : Option ℕ
  pub called : (v : ℕ) → call ≡ Some v → (held (at thread j)).register 17 ≡ v
  pub is : text ≡ step ++ (flat_map (register_end s (at thread j)) (registers_read row.instr) ++ byte ++ leaf_told call row.instr) ++ 10 ∷ []

abbrev pub IsTrailRowTrue : (ThreadPoint → PointHeld) → Shown → ℕ → ℕ → ℕ → Option StepRow → List ℕ → Type 0
IsTrailRowTrue held s thread first j None text = text ≡ []
IsTrailRowTrue held s thread first j (Some row) text = IsTrailStepTrue held s thread first j row text

-- a line for each of some steps, and maybe `more`
pub record IsTrailTrue (held : ThreadPoint → PointHeld) (s : Shown) (thread first : ℕ) (text : List ℕ) : Type 0 where
  pub steps : List ℕ
  pub more : Bool
  pub lines : IsDivided text (AreParts (λ j. IsTrailRowTrue held s thread first j (slice_get (s.rows thread) j)) steps) (λ rest. rest ≡ more_line more)

-- `from` of a register: its steps begin at the last one that wrote the register
abbrev pub IsFromRegisterTrue : (ThreadPoint → PointHeld) → Shown → ThreadPoint → ℕ → Option ℕ → List ℕ → Type 0
IsFromRegisterTrue held s c r None text = text ≡ start_line r
IsFromRegisterTrue held s c r (Some step) text = IsTrailTrue held s c.thread step text

-- `from` of a byte: the line of `writer`, or steps that begin at the last one that wrote the byte
abbrev pub IsFromByteTrue : (ThreadPoint → PointHeld) → Shown → ThreadPoint → ℕ → List ℕ → Type 0
IsFromByteTrue held s c a text = a < 2 ^ 32 → IsWriterLineTrue s.threads (held c) a text ⊎ ((step : ℕ) × (held c).last_writer a (writes (row_of c.thread step)) × IsTrailTrue held s c.thread step text)
