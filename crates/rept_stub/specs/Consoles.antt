-- What gdb's console tells of the row at which a move stops, before the stop reply (GDB manual,
-- appendix Remote Serial Protocol, section Stop Reply Packets, `O`): whether the row surely writes
-- the watched byte, and which register of its address isn't known. This project's own words.
use Rattle.std.specs.Prelude.{ℕ, ◌+◌, List, [], ◌∷◌, ◌++◌, length, slice_get, Bool, true, false, nat_le, nat_lt, Option, None, Some, is_some, codes, if◌then◌else◌}
use Rattle.std.specs.Fmt.{decimal}
use Rattle.rept_word.specs.Hex.{hex_word}
use Rattle.rept_isa.specs.Operands.{first_read}
use Rattle.rept_isa.specs.declared.row.StepRow.{StepRow}
use Rattle.rept_report.specs.declared.writer.Writer.{Writer}
use Rattle.rept_report.specs.declared.writer.Writer.TheVariants as writer
use Rattle.rept_remote.specs.declared.request.request.Movement.{Movement}
use Rattle.rept_remote.specs.declared.request.request.Movement.TheVariants as way
use Rattle.rept_findings.specs.LastWriters.{writer_at}
use Rattle.rept_findings.specs.Shown.{Shown, number}
use Rattle.rept_findings.specs.Texts.{at, step_text}
use Rattle.rept_findings.specs.declared.place.ThreadPoint.{ThreadPoint}
use Rattle.rept_remote.specs.Moves.Halts.{is_stepped_over}
use Rattle.rept_remote.specs.declared.moves.halt.MoveEnd.{MoveEnd}
use Rattle.rept_remote.specs.declared.moves.halt.StopReason.{StopReason}
use Rattle.rept_remote.specs.declared.moves.halt.StopReason.TheVariants as stop

-- a register, unless it is known at a point
abbrev pub unless_known : Shown → ThreadPoint → Option ℕ → Option ℕ
unless_known s c None = None
unless_known s c (Some r) = if is_some (s.register (number s c) r) then None else Some r

-- the register from which the address of a step's access is reckoned, unless it is known there
abbrev pub base_of : Shown → ThreadPoint → Option StepRow → Option ℕ
base_of s c None = None
base_of s c (Some row) = unless_known s c (first_read row.instr)

abbrev pub base_at : Shown → ThreadPoint → Option ℕ
base_at s c = if nat_lt c.thread s.threads then base_of s c (slice_get (s.rows c.thread) c.point) else None

abbrev pub base_text : Option ℕ → List ℕ
base_text None = []
base_text (Some r) = codes ": the address in x" ++ decimal r ++ codes " isn't known"

-- a step, what it does, and the address of the byte
abbrev pub row_told : Shown → List ℕ → ℕ → ℕ → List ℕ
row_told s words address row = codes "step " ++ step_text s (s.point row) ++ words ++ hex_word address

-- `step N writes ADDRESS`, or `may write`, and the register
abbrev pub writer_told : Shown → ℕ → Writer → List ℕ
writer_told s address (writer.Writes row) = row_told s (codes " writes ") address row ++ 10 ∷ []
writer_told s address (writer.MayWrite row) = row_told s (codes " may write ") address row ++ base_text (base_at s (s.point row)) ++ 10 ∷ []
writer_told s address writer.Several = []
writer_told s address writer.None = []

-- the byte of which gdb itself tells no change
abbrev pub told_address : StopReason → Option ℕ
told_address (stop.Access address) = Some address
told_address (stop.Unseen address) = Some address
told_address _ = None

abbrev pub is_back : Movement → Bool
is_back way.StepBack = true
is_back way.ContinueBack = true
is_back _ = false

-- the point after the row at which a move stops
abbrev pub past : Movement → MoveEnd → ℕ
past way end =
    if is_back way then (if is_stepped_over end.stop then end.point else end.point + 1)
    else (if is_stepped_over end.stop then end.point + 1 else end.point)

abbrev pub line_at : Shown → ThreadPoint → Option ℕ → List ℕ
line_at s c None = []
line_at s c (Some address) = writer_told s address (writer_at s c address)

-- the line of the row at which a move of a thread stops; none of any other stop
abbrev pub console_line : Shown → Movement → ℕ → MoveEnd → List ℕ
console_line s way thread end =
    if nat_le (past way end) (length (s.rows thread)) then line_at s (at thread (past way end)) (told_address end.stop) else []
