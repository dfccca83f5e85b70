-- What keeps a value from being known: the nearest steps before and after a point that may have
-- written it, and what each of them lacks. This project's own.
use Rattle.std.specs.Prelude.{ℕ, ◌-◌, List, [], ◌∷◌, ◌++◌, length, is_none, Option, None, Some, slice_get, codes, if◌then◌else◌}
use Rattle.std.specs.List.{find, range_with_len}
use Rattle.std.specs.Option.{option_or}
use Rattle.rept_isa.specs.declared.instr.Instr.{Instr}
use Rattle.rept_isa.specs.declared.row.StepRow.{StepRow}
use Rattle.rept_isa.specs.Operands.{first_read, second_read}
use Rattle.rept_isa.specs.Texts.{register_text}
use Rattle.rept_word.specs.Hex.{hex_word}
use Rattle.rept_findings.specs.Shown.{Shown, moment_at, number}
use Rattle.rept_findings.specs.Texts.{at, memory_lines, value_line}
use Rattle.rept_findings.specs.declared.place.ThreadPoint.{ThreadPoint}
use Rattle.rept_questions.specs.Texts.{executed_text}
use Rattle.rept_questions.specs.Trail.{bytes_read, falling, register_source, writes_register}
use Rattle.rept_questions.specs.Writers.{is_writer}

-- a register, where its value isn't known
abbrev pub unless_known : Shown → ℕ → Option ℕ → Option ℕ
unless_known s point None = None
unless_known s point (Some r) = if is_none (s.register point r) then Some r else None

-- the first of the two registers that an instruction reads whose value isn't known
abbrev pub unknown_operand : Shown → ℕ → Instr → Option ℕ
unknown_operand s point instr = option_or (unless_known s point (first_read instr)) (unless_known s point (second_read instr))

-- the first of the bytes that a step reads whose value isn't known
abbrev pub unknown_byte : Shown → ThreadPoint → Instr → Option ℕ
unknown_byte s c instr = find (λ a. is_none (s.byte (moment_at s c) a)) (bytes_read s c instr)

abbrev pub lacked_byte : Option ℕ → List ℕ
lacked_byte None = []
lacked_byte (Some a) = codes " lacks " ++ hex_word a

abbrev pub lacked : Option ℕ → Option ℕ → List ℕ
lacked None byte = lacked_byte byte
lacked (Some r) byte = codes " lacks " ++ register_text r

-- ` lacks xN` or ` lacks HEX`: the first register, or else the first byte, that a step reads and
-- that isn't known before it
abbrev pub lacks_text : Shown → ThreadPoint → Instr → List ℕ
lacks_text s c instr = lacked (unknown_operand s (number s c) instr) (unknown_byte s c instr)

-- a word, a step with its values, and what it lacks
abbrev pub lost_line : Shown → List ℕ → ThreadPoint → StepRow → List ℕ
lost_line s side c row = side ++ executed_text s c row ++ lacks_text s c row.instr ++ 10 ∷ []

abbrev pub lost_row : Shown → List ℕ → ThreadPoint → Option StepRow → List ℕ
lost_row s side c None = []
lost_row s side c (Some row) = lost_line s side c row

abbrev pub lost_step : Shown → List ℕ → ℕ → Option ℕ → List ℕ
lost_step s side thread None = side ++ codes "none" ++ 10 ∷ []
lost_step s side thread (Some j) = lost_row s side (at thread j) (slice_get (s.rows thread) j)

-- `back` and the nearest step before a point, `onward` and the nearest one after it; `none` where
-- there is none
abbrev pub lost_lines : Shown → ℕ → Option ℕ → Option ℕ → List ℕ
lost_lines s thread back onward = lost_step s (codes "back ") thread back ++ lost_step s (codes "onward ") thread onward

-- the first step from a point on that writes a register
abbrev pub next_writer : List StepRow → ℕ → ℕ → Option ℕ
next_writer rows point r = find (λ j. writes_register r (slice_get rows j)) (range_with_len point (length rows - point))

-- the last step before a point that wrote a byte, or may have
abbrev pub byte_back : Shown → ThreadPoint → ℕ → Option ℕ
byte_back s c a = find (λ j. is_writer s a (at c.thread j)) (falling c.point)

-- the first step from a point on that writes it, or may
abbrev pub byte_onward : Shown → ThreadPoint → ℕ → Option ℕ
byte_onward s c a = find (λ j. is_writer s a (at c.thread j)) (range_with_len c.point (length (s.rows c.thread) - c.point))

-- what keeps a register from being known; where it is known its line
abbrev pub lost_register : Shown → ThreadPoint → ℕ → Option ℕ → List ℕ
lost_register s c r None = lost_lines s c.thread (register_source (s.rows c.thread) c.point r) (next_writer (s.rows c.thread) c.point r)
lost_register s c r (Some value) = value_line r (Some value)

-- what keeps a byte from being known; where it is known its line
abbrev pub lost_byte : Shown → ThreadPoint → ℕ → Option ℕ → List ℕ
lost_byte s c a None = lost_lines s c.thread (byte_back s c a) (byte_onward s c a)
lost_byte s c a (Some byte) = memory_lines s (moment_at s c) a 1
