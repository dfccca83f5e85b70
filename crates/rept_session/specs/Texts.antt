-- What a session answers to a command. HEX below is `0x` and eight lower-case hexadecimal digits.
-- This project's own.
use Rattle.std.specs.Prelude.{◌≡◌, ℕ, ◌+◌, ◌-◌, ◌*◌, min, List, [], ◌∷◌, ◌++◌, length, Bool, true, false, codes}
use Rattle.std.specs.Fmt.{decimal}
use Rattle.rept_word.specs.Hex.{hex_word}
use Rattle.rept_partial.specs.declared.range.Range.{Range}
use Rattle.rept_report.specs.declared.writer.Writer.{Writer}
use Rattle.rept_session.specs.declared.command.Command.{Command}
use Rattle.rept_session.specs.declared.command.Command.TheVariants as command
use Rattle.rept_session.specs.declared.command.BadCommand.{BadCommand}
use Rattle.rept_report.specs.declared.counts.Counts.{Counts}
use Rattle.rept_session.specs.Commands.{number_of_refusal}
use Rattle.rept_findings.specs.Shown.{SessionTold, Shown, moment_at, number}
use Rattle.rept_findings.specs.declared.place.ThreadPoint.{ThreadPoint}
use Rattle.rept_session.specs.declared.question.Question.{Question}
use Rattle.rept_session.specs.declared.question.Question.TheVariants as question
use Rattle.rept_session.specs.Help.{help_text}
use Rattle.rept_questions.specs.Calls.{calls_lines}
use Rattle.rept_questions.specs.Lost.{lost_byte, lost_register}
use Rattle.rept_questions.specs.Trail.{byte_source, register_source}
use Rattle.rept_questions.specs.Writers.{writers_before}
use Rattle.rept_findings.specs.Texts.{at, beyond_line, memory_lines, note_text, pc_at, premises_lines, range_text, register_line, register_lines, step_lines, writer_line}
use Rattle.rept_questions.specs.Texts.{IsByteExplained, IsFromByte, IsFromRegister, IsRegisterExplained, around_lines, at_line, find_line, stack_lines, visits_line, writers_lines}

-- `point C of N pc HEX`
abbrev pub point_line : Shown → ThreadPoint → List ℕ
point_line s c = codes "point " ++ decimal c.point ++ codes " of " ++ decimal (length (s.rows c.thread)) ++ codes " pc " ++ hex_word (pc_at s c) ++ 10 ∷ []

-- `thread T pid P`, and the line of the point
abbrev pub thread_lines : Shown → ThreadPoint → List ℕ
thread_lines s c = codes "thread " ++ decimal c.thread ++ codes " pid " ++ decimal (s.process c.thread) ++ 10 ∷ [] ++ point_line s c

abbrev pub range_line : Shown → ℕ → ℕ → List ℕ
range_line s point r = range_text r (s.range point r) ++ note_text (s.note point r) ++ 10 ∷ []

-- `steps N calls C skipped S`
abbrev pub steps_line : Counts → ℕ → List ℕ
steps_line counts skipped = codes "steps " ++ decimal counts.steps ++ codes " calls " ++ decimal counts.calls ++ codes " skipped " ++ decimal skipped ++ 10 ∷ []

-- `registers F of T`
abbrev pub registers_line : ℕ → ℕ → List ℕ
registers_line known all = codes "registers " ++ decimal known ++ codes " of " ++ decimal all ++ 10 ∷ []

-- `stores E exact X inexact`
abbrev pub stores_line : Counts → List ℕ
stores_line counts = codes "stores " ++ decimal counts.exact ++ codes " exact " ++ decimal counts.inexact ++ codes " inexact" ++ 10 ∷ []

-- of x1 to x31 at each of the points of all threads, how many are known
abbrev pub summary_lines : Shown → ℕ → List ℕ
summary_lines s skipped = steps_line s.counts skipped ++ registers_line s.counts.registers (31 * s.points) ++ stores_line s.counts ++ beyond_line s.beyond

-- the last one
abbrev pub last_of : Shown → ℕ → ThreadPoint
last_of s thread = at thread (length (s.rows thread))

-- the point after a command that leaves the cursor in its thread: `back` goes down to 0 at most,
-- `fwd` up to the last point at most
abbrev pub point_after : ℕ → ℕ → Command → ℕ
point_after last point (command.Back k) = point - k
point_after last point (command.Fwd k) = min (point + k) last
point_after last point (command.Goto i) = i
point_after last point _ = point

-- the cursor after a command: `thread` goes to the last point of another thread
abbrev pub cursor_after : Shown → ThreadPoint → Command → ThreadPoint
cursor_after s c (command.Thread t) = last_of s t
cursor_after s c other = at c.thread (point_after (length (s.rows c.thread)) c.point other)

-- the last 16 steps before a point
abbrev pub recent_lines : Shown → ThreadPoint → List ℕ
recent_lines s c = step_lines (s.rows c.thread) (c.point - 16) (c.point - (c.point - 16))

-- `pc HEX`
abbrev pub pc_line : Shown → ThreadPoint → List ℕ
pc_line s c = codes "pc " ++ hex_word (pc_at s c) ++ 10 ∷ []

-- whether a text answers a question at a point
abbrev pub IsAnswered : Shown → ThreadPoint → Question → List ℕ → Type 0
IsAnswered s c question.At text = text ≡ at_line s c
IsAnswered s c (question.Around count) text = text ≡ around_lines s c count
IsAnswered s c (question.Visits address) text = text ≡ visits_line s c address
IsAnswered s c (question.Find r value) text = text ≡ find_line s c r value
IsAnswered s c question.Pc text = text ≡ pc_line s c
IsAnswered s c question.Recent text = text ≡ recent_lines s c
IsAnswered s c (question.FromRegister r) text = IsFromRegister s c r (register_source (s.rows c.thread) c.point r) text
IsAnswered s c (question.FromByte a) text = IsFromByte s c a (byte_source s c a) text
IsAnswered s c (question.Writers a count) text = text ≡ writers_lines s c (record { address = a; count = count }) (writers_before s (record { address = a; count = count }) c)
IsAnswered s c question.Premises text = text ≡ premises_lines s.beyond
IsAnswered s c (question.Calls count) text = text ≡ calls_lines s c count
IsAnswered s c (question.LostRegister r) text = text ≡ lost_register s c r (s.register (number s c) r)
IsAnswered s c (question.LostByte a) text = text ≡ lost_byte s c a (s.byte (moment_at s c) a)
IsAnswered s c question.Help text = text ≡ help_text

-- whether a text answers a command, with the cursor after it; which reason `why` tells is free
abbrev pub IsText : SessionTold → ThreadPoint → Command → List ℕ → Type 0
IsText t c command.Where text = text ≡ point_line t.shown c
IsText t c (command.Back k) text = text ≡ point_line t.shown c
IsText t c (command.Fwd k) text = text ≡ point_line t.shown c
IsText t c (command.Goto i) text = text ≡ point_line t.shown c
IsText t c command.Regs text = text ≡ register_lines t.shown (number t.shown c)
IsText t c (command.Reg r) text = text ≡ register_line t.shown (number t.shown c) r
IsText t c (command.Range r) text = text ≡ range_line t.shown (number t.shown c) r
IsText t c (command.Mem address count) text = text ≡ memory_lines t.shown (moment_at t.shown c) address count
IsText t c (command.Writer a) text = text ≡ writer_line t.shown (t.shown.writer (moment_at t.shown c) a)
IsText t c (command.WhyReg r) text = IsRegisterExplained t c r text
IsText t c (command.WhyByte a) text = IsByteExplained t c a text
IsText t c (command.List first count) text = text ≡ step_lines (t.shown.rows c.thread) first count
IsText t c (command.Thread thread) text = text ≡ thread_lines t.shown c
IsText t c command.Stack text = text ≡ stack_lines t.shown c
IsText t c command.Summary text = text ≡ summary_lines t.shown t.skipped
IsText t c command.Quit text = text ≡ []
IsText t c command.Nothing text = text ≡ []
IsText t c (command.Ask question) text = IsAnswered t.shown c question text

abbrev pub is_quit : Command → Bool
is_quit command.Quit = true
is_quit _ = false

-- `? N`
abbrev pub refusal_line : BadCommand → List ℕ
refusal_line refusal = codes "? " ++ decimal (number_of_refusal refusal) ++ 10 ∷ []
