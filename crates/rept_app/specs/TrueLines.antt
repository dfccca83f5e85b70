-- What the lines of a session claim of an execution, line by line. Nothing here speaks of rules, of
-- sets or of a report. This project's own.
use Rattle.std.specs.Prelude.{◌≡◌, ℕ, ◌<◌, ◌^◌, List, [], ◌∷◌, Ok, Err, MatchBool}
use Rattle.rept_findings.specs.Shown.{Shown}
use Rattle.rept_findings.specs.declared.place.ThreadPoint.{ThreadPoint}
use Rattle.rept_questions.specs.Trail.{register_source}
use Rattle.rept_session.specs.Session.{IsDivided, Said, cursor_of, ends, said_at}
use Rattle.rept_session.specs.Texts.{cursor_after, refusal_line}
use Rattle.rept_session.specs.declared.command.Command.{Command}
use Rattle.rept_session.specs.declared.command.Command.TheVariants as command
use Rattle.rept_session.specs.declared.question.Question.{Question}
use Rattle.rept_session.specs.declared.question.Question.TheVariants as question
use Rattle.rept_app.specs.TrueReasons.{IsWhyTrue}
use Rattle.rept_app.specs.TrueSteps.{AreStepsTrue, IsAtTrue, IsFindTrue}
use Rattle.rept_app.specs.TrueTrails.{IsFromByteTrue, IsFromRegisterTrue, IsLostByteTrue, IsLostRegisterTrue}
use Rattle.rept_app.specs.TrueValues.{AreBytesTrue, AreRegisterLinesTrue, ExecutionHeld, IsRangeLineTrue, IsRegisterLineTrue, IsWriterLineTrue, PointHeld}
use Rattle.rept_app.specs.TrueWriters.{IsWritersTrue, writers_asked}

-- Whether the answer to a question is true of an execution, by what it has at each point. `visits`,
-- `calls`, `help`, `premises` and the questions of the debugger tell the path or words.
abbrev pub IsReplyToQuestionTrue : (ThreadPoint → PointHeld) → Shown → ThreadPoint → Question → List ℕ → Type 0
IsReplyToQuestionTrue held s c question.At text = IsAtTrue held s c text
IsReplyToQuestionTrue held s c (question.Around count) text = AreStepsTrue held s c count text
IsReplyToQuestionTrue held s c (question.Find r value) text = IsFindTrue held c r value text
IsReplyToQuestionTrue held s c (question.FromRegister r) text = IsFromRegisterTrue held s c r (register_source (s.rows c.thread) c.point r) text
IsReplyToQuestionTrue held s c (question.FromByte a) text = IsFromByteTrue held s c a text
IsReplyToQuestionTrue held s c (question.Writers a count) text = a < 2 ^ 32 → IsWritersTrue held s (writers_asked c a count) text
IsReplyToQuestionTrue held s c (question.LostRegister r) text = IsLostRegisterTrue held s c r text
IsReplyToQuestionTrue held s c (question.LostByte a) text = IsLostByteTrue held s c a text
IsReplyToQuestionTrue held s c _ text = Unit {0}

-- Whether the answer to a command is true of an execution, with the cursor after it. `where`,
-- `back`, `fwd`, `goto`, `thread`, `list` and `stack` tell the path, `summary` how much is known.
abbrev pub IsLineTrue : ExecutionHeld → Shown → ThreadPoint → Command → List ℕ → Type 0
IsLineTrue x s c (command.Reg r) text = IsRegisterLineTrue (x.at c) r text
IsLineTrue x s c command.Regs text = AreRegisterLinesTrue (x.at c) text
IsLineTrue x s c (command.Range r) text = IsRangeLineTrue (x.at c) r text
IsLineTrue x s c (command.Mem address count) text = AreBytesTrue (x.at c) address count text
IsLineTrue x s c (command.Writer a) text = a < 2 ^ 32 → IsWriterLineTrue s.threads (x.at c) a text
IsLineTrue x s c (command.Ask question) text = IsReplyToQuestionTrue x.at s c question text
IsLineTrue x s c (command.WhyReg r) text = IsWhyTrue x s text
IsLineTrue x s c (command.WhyByte a) text = IsWhyTrue x s text
IsLineTrue x s c _ text = Unit {0}

-- the same of an input line, at the cursor before it
abbrev pub IsReplyTrue : ExecutionHeld → Shown → ThreadPoint → Said → List ℕ → Type 0
IsReplyTrue x s cursor (Ok command) text = IsLineTrue x s (cursor_after s cursor command) command text
IsReplyTrue x s cursor (Err refusal) text = text ≡ refusal_line refusal

-- Of an execution, by what it has at each point: the text is an answer for each input line in their
-- order, up to `quit`, and each answer is true of it.
abbrev pub AreLinesTrue : ExecutionHeld → Shown → ThreadPoint → List (List ℕ) → List ℕ → Type 0
AreLinesTrue x s cursor [] text = text ≡ []
AreLinesTrue x s cursor (line ∷ lines) text =
    MatchBool (ends (said_at s cursor line)) (text ≡ [])
    (IsDivided text (IsReplyTrue x s cursor (said_at s cursor line)) (AreLinesTrue x s (cursor_of s cursor (said_at s cursor line)) lines))
