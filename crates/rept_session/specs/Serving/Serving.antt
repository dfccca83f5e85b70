-- What a session writes, and how it ends. It answers each line of the input before it reads the
-- next one, with the cursor at the last point of thread 0 first. This project's own.
use Rattle.std.specs.Prelude.{◌≡◌, ◌⊎◌, ℕ, ◌≤◌, ◌<◌, List, ◌++◌, length, take, Bool, true, false, nat_le, Option, Some, if◌then◌else◌}
use Rattle.std.specs.List.{list_any}
use Rattle.std.specs.Io.KnownBytes.{Appends}
use Rattle.rept_ports.specs.Causes.{OneFault, AppendsPrefix}
use Rattle.rept_ports.specs.Lines.{lines_of, whole_lines}
use Rattle.rept_ports.specs.Port.{Port, PortMove}
use Rattle.rept_session.specs.Session.{IsSession, is_quit_line}
use Rattle.rept_findings.specs.Shown.{SessionTold}
use Rattle.rept_session.specs.Texts.{last_of}
use Rattle.rept_session.specs.declared.serving.serving.Served.{Served}
use Rattle.rept_session.specs.declared.serving.serving.Served.TheVariants as served

-- the most bytes that are taken of an input
abbrev pub most_input : ℕ
most_input = 1048576

-- the lines that are read of an input: all of them, or the whole lines of its first bytes where it
-- has too many
abbrev pub lines_read : List ℕ → List (List ℕ)
lines_read input = if nat_le (length input) most_input then lines_of input else whole_lines (take most_input input)

-- the bytes of an input, and those that it has left when the session has ended, where its source
-- tells them
pub record Reading : Type 0 where
  pub input : List ℕ
  pub left : Option (List ℕ)

-- one of the lines is `quit`
abbrev pub has_quit : List (List ℕ) → Bool
has_quit lines = list_any is_quit_line lines

-- the answers to these lines, from the last point of thread 0 on
abbrev pub AreAnswers : SessionTold → List (List ℕ) → List ℕ → Type 0
AreAnswers t lines text = IsSession t (last_of t.shown 0) lines text

-- the input was read to its end, or to `quit`
pub record InputEnded (t : SessionTold) (input text : List ℕ) : Type 0 where
  pub whole : (length input ≤ most_input) ⊎ (has_quit (lines_read input) ≡ true)
  pub answers : AreAnswers t (lines_read input) text

-- The input failed after the bytes that are no longer left of it; none of their lines is `quit`,
-- and all whole ones are answered.
pub record Failed (t : SessionTold) (reading : Reading) (text : List ℕ) : Type 0 where
  pub taken : List ℕ
  pub rest : List ℕ
  pub parts : reading.input ≡ taken ++ rest
  pub rest_left : reading.left ≡ Some rest
  pub within : length taken ≤ most_input
  pub goes_on : has_quit (whole_lines taken) ≡ false
  pub answers : AreAnswers t (whole_lines taken) text

-- the input has too many bytes, and no line that is read of it is `quit`
pub record Overran (t : SessionTold) (input text : List ℕ) : Type 0 where
  pub long : most_input < length input
  pub goes_on : has_quit (lines_read input) ≡ false
  pub answers : AreAnswers t (lines_read input) text

-- the answers to the first lines that are read, as many as they are
pub record FirstAnswers (t : SessionTold) (input text : List ℕ) : Type 0 where
  pub count : ℕ
  pub goes_on : has_quit (take count (lines_read input)) ≡ false
  pub answers : AreAnswers t (take count (lines_read input)) text

-- what was written by a session that ended so, where the output doesn't fail
abbrev pub Wrote : SessionTold → Reading → List ℕ → Served → Type 0
Wrote t reading text served.Ended = InputEnded t reading.input text
Wrote t reading text served.ReadFault = Failed t reading text
Wrote t reading text served.TooMuchInput = Overran t reading.input text
Wrote t reading text served.OutOfMemory = FirstAnswers t reading.input text
Wrote t reading text served.OutputFault = ⊥

-- The output is what it was, followed by such a text; or it failed once, and what follows is a
-- prefix of the answers to the first lines.
abbrev pub Serves : SessionTold → Reading → PortMove Port → Served → Type 0
Serves t reading out result =
    ((text : List ℕ) × Wrote t reading text result × Appends out.before.bytes out.after.bytes text)
    ⊎ ((result ≡ served.OutputFault) × ((whole : List ℕ) × FirstAnswers t reading.input whole × AppendsPrefix out.before.bytes out.after.bytes whole))

-- the count of faults rose by one where the session ended so, and else stands
abbrev pub CountsAt : ℕ → ℕ → Served → Served → Type 0
CountsAt before now expected result = ((result ≡ expected) × OneFault before now) ⊎ ((result ≡ expected → ⊥) × (now ≡ before))

-- a fault of the input or the output ends the session, and no other is counted
pub record IsServeCaused (source sink : PortMove Port) (result : Served) : Type 0 where
  pub input : CountsAt source.before.faults source.after.faults served.ReadFault result
  pub output : CountsAt sink.before.faults sink.after.faults served.OutputFault result
