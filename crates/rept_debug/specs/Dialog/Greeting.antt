-- What is answered to a debugger before anything is found: it connects while the crash is analysed.
-- Each answer is one that no report changes. This project's own.
use Rattle.std.specs.Prelude.{◌≡◌, ℕ, List, [], ◌++◌, length, None, Some, Result, Ok, Err, codes, if◌then◌else◌}
use Rattle.rept_ports.specs.Port.{Port, PortMove}
use Rattle.rept_remote.specs.Escapes.{packet_of}
use Rattle.rept_remote.specs.Frames.{Arrived, Arrives, arrived}
use Rattle.rept_remote.specs.Frames.Arrived.{packet, broken, large, again, interrupt}
use Rattle.rept_remote.specs.Reading.{PacketReader}
use Rattle.rept_remote.specs.Request.Requests.{request_of}
use Rattle.rept_remote.specs.declared.arrival.Arrival.{Arrival}
use Rattle.rept_stub.specs.Early.{early_reply}
use Rattle.rept_stub.specs.Replies.{error}
use Rattle.rept_debug.specs.Dialog.Converse.{Broke, DialogRules, TalkEnded}
use Rattle.rept_debug.specs.Dialog.Converse as dialogs
use Rattle.rept_debug.specs.Dialog.Dialog.{acknowledges_after, early_start}
use Rattle.rept_debug.specs.declared.dialog.conversation.SessionEnd.{SessionEnd}
use Rattle.rept_debug.specs.declared.dialog.conversation.SessionEnd.TheVariants as conversed
use Rattle.rept_debug.specs.declared.dialog.early.EarlyDialog.{EarlyDialog}
use Rattle.rept_debug.specs.declared.dialog.greeting.Greeting.{Greeting}

abbrev pub early_sign : EarlyDialog → List ℕ → List ℕ
early_sign d text = if d.acknowledges then text else []

-- the dialog after a packet with this reply
abbrev pub early_after : EarlyDialog → List ℕ → List ℕ → EarlyDialog
early_after d bytes reply = record { acknowledges = acknowledges_after d.acknowledges (request_of bytes); last = packet_of reply }

-- What is written at an arrival, and the dialog after it: as in a dialog over a report, where the
-- reply to a packet is one that no report changes.
abbrev pub IsEarlyTurn : EarlyDialog → Arrived → List ℕ → EarlyDialog → Type 0
IsEarlyTurn d (packet bytes) text new = (reply : List ℕ) × (early_reply (request_of bytes) ≡ Some reply) × (text ≡ early_sign d (codes "+") ++ packet_of reply) × (new ≡ early_after d bytes reply)
IsEarlyTurn d broken text new = (text ≡ early_sign d (codes "-")) × (new ≡ d)
IsEarlyTurn d large text new = (text ≡ early_sign d (codes "+") ++ packet_of error) × (new ≡ record d { last = packet_of error })
IsEarlyTurn d again text new = (text ≡ early_sign d d.last) × (new ≡ d)
IsEarlyTurn d interrupt text new = (text ≡ []) × (new ≡ d)

-- what was read and written since the dialog began, and where it is then
pub data Greets : List ℕ → List ℕ → EarlyDialog → Type 0 where
  begun : Greets [] [] early_start
  turn : (read written : List ℕ) (d : EarlyDialog) (got text : List ℕ) (what : Arrived) (new : EarlyDialog)
      → Greets read written d → Arrives got what → IsEarlyTurn d what text new → Greets (read ++ got) (written ++ text) new

abbrev pub early_rules : DialogRules EarlyDialog
early_rules = record { talks = Greets; turns = IsEarlyTurn }

-- an arrival whose answer needs a report
abbrev pub WantsReport : Arrived → Type 0
WantsReport (packet bytes) = early_reply (request_of bytes) ≡ None
WantsReport _ = ⊥

-- an arrival came that isn't answered yet; the reader has read so far, and not ended
pub record Awaits {D : Type 0} (rules : DialogRules D) (source sink : PortMove Port) (now : D) (packets : PacketReader) (what : Arrival) : Type 0 where
  pub arrival : dialogs.Arrival rules source sink
  pub is_now : arrival.now ≡ now
  pub is_what : arrival.what ≡ arrived what packets.carried
  pub counted : packets.count ≡ length (arrival.read ++ arrival.got)
  pub going : packets.over ≡ None

-- the dialog ended before its first packet that needs a report
abbrev pub EndsEarly : PortMove Port → PortMove Port → SessionEnd → Type 0
EndsEarly source sink conversed.Left = ⊥
EndsEarly source sink (conversed.Ended why) = TalkEnded early_rules source sink why
EndsEarly source sink conversed.OutputFault = Broke early_rules source sink
EndsEarly source sink conversed.OutOfMemory = dialogs.Arrival early_rules source sink

-- a packet that needs a report came next; or the dialog ended
abbrev pub GreetsUpTo : PortMove Port → PortMove Port → Greeting → Result Arrival SessionEnd → Type 0
GreetsUpTo source sink g (Ok what) = Awaits early_rules source sink g.dialog g.packets what × WantsReport (arrived what g.packets.carried)
GreetsUpTo source sink g (Err end) = EndsEarly source sink end

-- all packets were answered up to the first one that needs a report
abbrev pub IsGreeting : PortMove Port → PortMove Port → Greeting → Type 0
IsGreeting source sink g = GreetsUpTo source sink g g.next
