-- What the line of a step claims of the values that an execution has before and after that step.
-- HEX below is `0x` and eight lower-case hexadecimal digits. This project's own.
use Rattle.std.specs.Prelude.{◌≡◌, ℕ, ◌+◌, ◌-◌, min, List, [], ◌∷◌, ◌++◌, length, Option, None, Some, option_map, slice_get, codes}
use Rattle.std.specs.List.{All, range_with_len}
use Rattle.rept_isa.specs.declared.instr.Instr.{Instr}
use Rattle.rept_isa.specs.declared.row.StepRow.{StepRow}
use Rattle.rept_isa.specs.Numbers.{plus}
use Rattle.rept_isa.specs.Operands.{first_read, second_read, written_by}
use Rattle.rept_isa.specs.Texts.{register_text}
use Rattle.rept_findings.specs.Shown.{Shown}
use Rattle.rept_findings.specs.Texts.{at, value_text}
use Rattle.rept_findings.specs.declared.place.ThreadPoint.{ThreadPoint}
use Rattle.rept_questions.specs.Spots.{spots_line}
use Rattle.rept_questions.specs.Texts.{address_text, end_line, named_row}
use Rattle.rept_questions.specs.Trail.{base_of}
use Rattle.rept_session.specs.Session.{IsDivided}
use Rattle.rept_app.specs.TrueValues.{IsHeld, PointHeld}

-- a space, a register, and its value or `unknown`
abbrev pub operand_told : (ℕ → Option ℕ) → ℕ → List ℕ
operand_told told r = codes " " ++ register_text r ++ codes " " ++ value_text (told r)

abbrev pub second_told : (ℕ → Option ℕ) → Option ℕ → List ℕ
second_told told None = []
second_told told (Some r) = operand_told told r

-- ` reads xN HEX xM HEX`
abbrev pub reads_told : (ℕ → Option ℕ) → Option ℕ → Option ℕ → List ℕ
reads_told told None second = []
reads_told told (Some r) second = codes " reads" ++ operand_told told r ++ second_told told second

-- ` writes xN HEX`
abbrev pub writes_told : (ℕ → Option ℕ) → Option ℕ → List ℕ
writes_told told None = []
writes_told told (Some r) = codes " writes" ++ operand_told told r

-- the address at which an instruction loads or stores, by the values of registers
abbrev pub address_in : (ℕ → ℕ) → Instr → Option ℕ
address_in register instr = option_map (λ base. plus (register base.0) base.1) (base_of instr)

-- `J HEX NAME+0xOFFSET TEXT reads xN HEX xM HEX address HEX writes xN HEX`: the registers that are
-- read have these values before the step, it loads or stores at this address, and the register that
-- is written has this value after it. What stands before `reads` is the path's.
pub record IsStepTrue (held : ThreadPoint → PointHeld) (s : Shown) (c : ThreadPoint) (row : StepRow) (text : List ℕ) : Type 0 where
  pub before : ℕ → Option ℕ
  pub address : Option ℕ
  pub after : ℕ → Option ℕ
  pub reads : IsHeld before (held c).register
  pub accesses : (a : ℕ) → address ≡ Some a → address_in (held c).register row.instr ≡ Some a
  pub writes : IsHeld after (held (at c.thread (c.point + 1))).register
  pub is : text ≡ named_row s c.point row ++ reads_told before (first_read row.instr) (second_read row.instr) ++ address_text (base_of row.instr) address ++ writes_told after (written_by row.instr)

-- the line of a step; that of the last point claims nothing
abbrev pub IsRowTrue : (ThreadPoint → PointHeld) → Shown → ThreadPoint → Option StepRow → List ℕ → Type 0
IsRowTrue held s c None text = text ≡ end_line s c
IsRowTrue held s c (Some row) text = (step : List ℕ) × IsStepTrue held s c row step × (text ≡ step ++ 10 ∷ [])

-- the line of a point
abbrev pub IsAtTrue : (ThreadPoint → PointHeld) → Shown → ThreadPoint → List ℕ → Type 0
IsAtTrue held s c text = IsRowTrue held s c (slice_get (s.rows c.thread) c.point) text

-- a text of parts, one for each of some numbers in their order
abbrev pub AreParts : (ℕ → List ℕ → Type 0) → List ℕ → List ℕ → Type 0
AreParts F [] text = text ≡ []
AreParts F (k ∷ ks) text = IsDivided text (F k) (AreParts F ks)

-- the points that are so near to this one
abbrev pub points_around : Shown → ThreadPoint → ℕ → List ℕ
points_around s c count = range_with_len (c.point - count) (min (c.point + count) (length (s.rows c.thread)) + 1 - (c.point - count))

-- a line for each of them
abbrev pub AreStepsTrue : (ThreadPoint → PointHeld) → Shown → ThreadPoint → ℕ → List ℕ → Type 0
AreStepsTrue held s c count text = AreParts (λ p. IsAtTrue held s (at c.thread p)) (points_around s c count) text

-- `points K first P last P before P after P`: at each of the points that are counted, among which
-- are those that are named, the register has the value. Of the others nothing is claimed.
abbrev pub IsFindTrue : (ThreadPoint → PointHeld) → ThreadPoint → ℕ → ℕ → List ℕ → Type 0
IsFindTrue held c r value text = (points : List ℕ) × All (λ p. (held (at c.thread p)).register r ≡ value) points × (text ≡ spots_line points c.point)
