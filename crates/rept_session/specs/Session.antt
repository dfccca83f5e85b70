-- A whole session: a fold over the lines of its input, with a cursor, which is a point of a thread.
-- This project's own.
use Rattle.std.specs.Prelude.{◌≡◌, ℕ, List, [], ◌∷◌, ◌++◌, length, Bool, false, None, Result, Ok, Err, MatchBool}
use Rattle.rept_session.specs.declared.command.Command.{Command}
use Rattle.rept_session.specs.declared.command.BadCommand.{BadCommand}
use Rattle.rept_session.specs.Commands.{command_of}
use Rattle.rept_findings.specs.Shown.{SessionTold, Shown}
use Rattle.rept_findings.specs.declared.place.ThreadPoint.{ThreadPoint}
use Rattle.rept_session.specs.Texts.{IsText, cursor_after, is_quit, refusal_line}

-- what is said of a line: its command, or why it is none
abbrev pub Said : Type 0
Said = Result Command BadCommand

-- the cursor after a line, which a bad line leaves where it is
abbrev pub cursor_of : Shown → ThreadPoint → Said → ThreadPoint
cursor_of s cursor (Ok command) = cursor_after s cursor command
cursor_of s cursor (Err refusal) = cursor

-- whether a line ends the session
abbrev pub ends : Said → Bool
ends (Ok command) = is_quit command
ends (Err refusal) = false

-- whether a line ends the session, which it does at each cursor or at none (`quits_alike`): so it
-- is asked of a thread without steps, in a program without names
abbrev pub is_quit_line : List ℕ → Bool
is_quit_line line = ends (command_of (λ name. None) 0 1 line)

-- whether a text answers a line, at the cursor before it
abbrev pub IsReply : SessionTold → ThreadPoint → Said → List ℕ → Type 0
IsReply t cursor (Ok command) text = IsText t (cursor_after t.shown cursor command) command text
IsReply t cursor (Err refusal) text = text ≡ refusal_line refusal

-- what is said of a line at a cursor
abbrev pub said_at : Shown → ThreadPoint → List ℕ → Said
said_at s cursor line = command_of s.address_named (length (s.rows cursor.thread)) s.threads line

-- the text is one for a first line, and one for the rest
pub record IsDivided (text : List ℕ) (First Rest : List ℕ → Type 0) : Type 0 where
  pub first : List ℕ
  pub rest : List ℕ
  pub parts : text ≡ first ++ rest
  pub answers : First first
  pub follows : Rest rest

-- whether a text is what a session writes to these lines from a cursor on: the answer to each line
-- in order, up to `quit`
abbrev pub IsSession : SessionTold → ThreadPoint → List (List ℕ) → List ℕ → Type 0
IsSession t cursor [] text = text ≡ []
IsSession t cursor (line ∷ lines) text =
    MatchBool (ends (said_at t.shown cursor line)) (text ≡ [])
    (IsDivided text (IsReply t cursor (said_at t.shown cursor line)) (IsSession t (cursor_of t.shown cursor (said_at t.shown cursor line)) lines))

-- Some lines were answered by a text, and the cursor is where it is then; none of them ended the
-- session. However the input goes on, what the session writes is this text and what it writes to
-- the rest from that cursor on.
pub record HasAnswered (t : SessionTold) (start : ThreadPoint) (lines : List (List ℕ)) (written : List ℕ) (cursor : ThreadPoint) : Type 0 where
  pub onward : (later : List (List ℕ)) (text : List ℕ) → IsSession t cursor later text → IsSession t start (lines ++ later) (written ++ text)
