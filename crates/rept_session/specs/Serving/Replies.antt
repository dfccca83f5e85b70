-- What comes of one line of a session. This project's own.
use Rattle.std.specs.Prelude.{◌≡◌, ℕ, List, true, false, Option, Some, None, Err}
use Rattle.std.specs.Io.KnownBytes.{Appends}
use Rattle.rept_ports.specs.Causes.{OneFault, AppendsPrefix}
use Rattle.rept_ports.specs.Port.{Port, PortMove}
use Rattle.rept_ports.specs.declared.lines.limits.Line.{Line}
use Rattle.rept_ports.specs.declared.lines.limits.Line.TheVariants as line
use Rattle.rept_session.specs.Session.{Said, IsReply, cursor_of, ends, said_at}
use Rattle.rept_findings.specs.Shown.{IsThreadPoint, SessionTold, Shown}
use Rattle.rept_findings.specs.declared.place.ThreadPoint.{ThreadPoint}
use Rattle.rept_session.specs.declared.command.BadCommand.TheVariants.{LongLine}
use Rattle.rept_session.specs.declared.reply.Answer.{Answer}
use Rattle.rept_session.specs.declared.serving.serving.Next.{Next}
use Rattle.rept_session.specs.declared.serving.serving.Next.TheVariants as next

-- what a reader of lines gives of a line: nothing of a long one
abbrev pub said_of_line : Line → Option (List ℕ)
said_of_line (line.Text t) = Some t.now
said_of_line line.Long = None

-- the command that a line is at a cursor, or why it is none
abbrev pub said_by : Shown → ThreadPoint → Option (List ℕ) → Said
said_by s cursor None = Err LongLine
said_by s cursor (Some text) = said_at s cursor text

-- the answer to a line at a cursor
pub record IsAnswer (t : SessionTold) (cursor : ThreadPoint) (said : Option (List ℕ)) (answer : Answer) : Type 0 where
  pub text : IsReply t cursor (said_by t.shown cursor said) answer.text
  pub now : answer.cursor ≡ cursor_of t.shown cursor (said_by t.shown cursor said)
  pub within : IsThreadPoint t.shown answer.cursor
  pub quit : answer.quit ≡ ends (said_by t.shown cursor said)

-- the answer was written, and this is the cursor then
pub record Replied (t : SessionTold) (cursor : ThreadPoint) (said : Option (List ℕ)) (out : PortMove Port) (now : ThreadPoint) : Type 0 where
  pub reply : List ℕ
  pub answers : IsReply t cursor (said_by t.shown cursor said) reply
  pub goes_on : ends (said_by t.shown cursor said) ≡ false
  pub moved : now ≡ cursor_of t.shown cursor (said_by t.shown cursor said)
  pub within : IsThreadPoint t.shown now
  pub wrote : Appends out.before.bytes out.after.bytes reply
  pub calm : out.after.faults ≡ out.before.faults

-- the output failed in the answer
pub record FailsReply (t : SessionTold) (cursor : ThreadPoint) (said : Option (List ℕ)) (out : PortMove Port) : Type 0 where
  pub reply : List ℕ
  pub answers : IsReply t cursor (said_by t.shown cursor said) reply
  pub goes_on : ends (said_by t.shown cursor said) ≡ false
  pub wrote : AppendsPrefix out.before.bytes out.after.bytes reply
  pub fault : OneFault out.before.faults out.after.faults

-- what came of a line, at a cursor
abbrev pub RepliesToLine : SessionTold → ThreadPoint → Option (List ℕ) → PortMove Port → Next → Type 0
RepliesToLine t cursor said out (next.Line now) = Replied t cursor said out now
RepliesToLine t cursor said out next.Quit = (ends (said_by t.shown cursor said) ≡ true) × (out.after ≡ out.before)
RepliesToLine t cursor said out next.OutputFault = FailsReply t cursor said out
RepliesToLine t cursor said out next.OutOfMemory = out.after ≡ out.before
