-- A dialog with a debugger: each arrival is answered before the next one is read (GDB manual,
-- appendix Remote Serial Protocol, sections Overview and Packet Acknowledgment).
use Rattle.std.specs.Prelude.{◌≡◌, ℕ, List, [], ◌∷◌, ◌++◌, Bool, true, false, codes, if◌then◌else◌}
use Rattle.rept_remote.specs.Escapes.{packet_of}
use Rattle.rept_remote.specs.Frames.{Arrived, Arrives}
use Rattle.rept_remote.specs.Frames.Arrived.{packet, broken, large, again, interrupt}
use Rattle.rept_remote.specs.Request.Requests.{request_of}
use Rattle.rept_remote.specs.declared.request.request.GdbRequest.{GdbRequest}
use Rattle.rept_remote.specs.declared.request.request.GdbRequest.TheVariants as request
use Rattle.rept_findings.specs.Shown.{SessionTold, Shown}
use Rattle.rept_stub.specs.Answers.{IsStubAnswer, line_before, stand_after}
use Rattle.rept_stub.specs.Replies.{digits_of, error}
use Rattle.rept_stub.specs.Standing.{start_of}
use Rattle.rept_stub.specs.declared.answers.Setting.{Setting}
use Rattle.rept_debug.specs.declared.dialog.early.EarlyDialog.{EarlyDialog}
use Rattle.rept_debug.specs.declared.dialog.turn.Dialog.{Dialog}

-- what is kept of a dialog of which no report was needed yet: packets are acknowledged, and there
-- was no reply
abbrev pub early_start : EarlyDialog
early_start = record { acknowledges = true; last = [] }

-- such a dialog over what is told, with each thread's cursor at its last point, thread 0 selected,
-- and no breakpoints
abbrev pub early_at : Shown → EarlyDialog → Dialog
early_at s early = record { stand = start_of s (record { breaks = []; regions = [] }); acknowledges = early.acknowledges; last = early.last; is_over = false }

-- a dialog as it begins
abbrev pub start_at : Shown → Dialog
start_at s = early_at s early_start

-- packets are acknowledged until the debugger asks for none
abbrev pub acknowledges_after : Bool → GdbRequest → Bool
acknowledges_after before request.NoAcknowledgments = false
acknowledges_after before _ = before

abbrev pub is_last : GdbRequest → Bool
is_last request.Detach = true
is_last request.Kill = true
is_last _ = false

-- a line for gdb's console, as pairs of digits in a packet that begins with `O`; an empty one isn't
-- written
abbrev pub console_packet : List ℕ → List ℕ
console_packet [] = []
console_packet line = packet_of (79 ∷ digits_of line)

-- what is written in reply to a packet, after a line for gdb's console; nothing to `k`
abbrev pub written_to : GdbRequest → List ℕ → List ℕ → List ℕ
written_to request.Kill line reply = []
written_to _ line reply = console_packet line ++ packet_of reply

abbrev pub sign : Dialog → List ℕ → List ℕ
sign d text = if d.acknowledges then text else []

-- the dialog after a packet with this reply
abbrev pub after_packet : SessionTold → Dialog → List ℕ → List ℕ → Dialog
after_packet t d bytes reply = record {
  stand = stand_after t.shown d.stand bytes;
  acknowledges = acknowledges_after d.acknowledges (request_of bytes);
  last = written_to (request_of bytes) (line_before t.shown d.stand bytes) reply;
  is_over = is_last (request_of bytes);
}

-- What is written at an arrival, and the dialog after it. A packet is acknowledged and, but for
-- `k`, answered; one that is broken is refused. The last reply is written again where it is wished
-- for and packets are acknowledged: without that gdb wishes for it at each time limit, and takes
-- two replies for those to two packets.
abbrev pub IsTurn : SessionTold → Setting → Dialog → Arrived → List ℕ → Dialog → Type 0
IsTurn t setting d (packet bytes) text new = (reply : List ℕ) × IsStubAnswer t setting d.stand bytes reply × (text ≡ sign d (codes "+") ++ written_to (request_of bytes) (line_before t.shown d.stand bytes) reply) × (new ≡ after_packet t d bytes reply)
IsTurn t setting d broken text new = (text ≡ sign d (codes "-")) × (new ≡ d)
IsTurn t setting d large text new = (text ≡ sign d (codes "+") ++ packet_of error) × (new ≡ record d { last = packet_of error })
IsTurn t setting d again text new = (text ≡ sign d d.last) × (new ≡ d)
IsTurn t setting d interrupt text new = (text ≡ []) × (new ≡ d)

-- what was read and written since a dialog began, and where it is then
pub data Talks (t : SessionTold) (setting : Setting) (start : Dialog) : List ℕ → List ℕ → Dialog → Type 0 where
  begun : Talks t setting start [] [] start
  turn : (read written : List ℕ) (d : Dialog) (got text : List ℕ) (what : Arrived) (new : Dialog)
      → Talks t setting start read written d → Arrives got what → IsTurn t setting d what text new → Talks t setting start (read ++ got) (written ++ text) new
