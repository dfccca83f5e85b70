-- A process that opens a crash for a debugger: its words, its ports, and the number that it ends
-- with. This project's own.
use Rattle.std.specs.Prelude.{◌≡◌, ◌⊎◌, ℕ, List, [], ◌∷◌, ◌++◌, Bool, false, ◌||◌, Result, Ok, Err, IfSome, codes, string_bytes, MatchResult, if◌then◌else◌}
use Rattle.std.specs.Str.{bytes_eq}
use Rattle.rept_ports.specs.Port.{Port, PortMove, move}
use Rattle.rept_ports.specs.Shelves.{Shelved}
use Rattle.rept_ports.specs.declared.arguments.Unreadable.{Unreadable}
use Rattle.rept_ports.specs.declared.arguments.Unreadable.TheVariants.{NotText, OutOfMemory}
use Rattle.rept_remote.specs.declared.arrival.Ending.TheVariants as ending
use Rattle.rept_debug.specs.declared.dialog.conversation.SessionEnd.{SessionEnd}
use Rattle.rept_debug.specs.declared.dialog.conversation.SessionEnd.TheVariants as conversed
use Rattle.rept_opening.specs.Delivered.{Delivers, SaysOrNoMemory, TellsName}
use Rattle.rept_opening.specs.Status.{number_of_status}
use Rattle.rept_opening.specs.declared.refusal.Refusal.{Refusal}
use Rattle.rept_opening.specs.declared.refusal.Refusal.TheVariants as refusal
use Rattle.rept_opening.specs.declared.status.ExitStatus.{ExitStatus}
use Rattle.rept_opening.specs.declared.status.ExitStatus.TheVariants as ends
use Rattle.rept_debug.specs.Debugged.{HasNoTalk, IsDebugged, MayGreet, Notices, status_of_no_talk, streams}
use Rattle.rept_debug.specs.declared.no_talk.GdbError.{GdbError}
use Rattle.rept_debug.specs.declared.no_talk.GdbError.TheVariants as no_talk
use Rattle.rept_debug.specs.declared.talk.GdbSession.{GdbSession}

-- the words, or why they can't be read; and the ports before the call and after it
pub record DebugProcess : Type 0 where
  pub words : Result (List (List ℕ)) Unreadable
  pub file_store : PortMove Shelved
  pub input : PortMove Port
  pub output : PortMove Port
  pub errors : PortMove Port

abbrev pub process : Result (List (List ℕ)) Unreadable → PortMove Shelved → PortMove Port → PortMove Port → PortMove Port → DebugProcess
process words file_store input output errors = record { words = words; file_store = file_store; input = input; output = output; errors = errors }

-- the first word is `open`, `bits` or `infer`
abbrev pub names_way : List (List ℕ) → Bool
names_way [] = false
names_way (first ∷ words) = bytes_eq first (codes "open") || bytes_eq first (codes "bits") || bytes_eq first (codes "infer")

-- the words of a session over the same crash: these, where the first is `open`, `bits` or `infer`,
-- and else `infer` and these
abbrev pub session_words : List (List ℕ) → List (List ℕ)
session_words words = if names_way words then words else codes "infer" ∷ words

-- the status of a dialog that was held; a debugger that is gone is no fault
abbrev pub status_of_end : SessionEnd → ExitStatus
status_of_end conversed.Left = ends.Ok
status_of_end (conversed.Ended ending.AtEnd) = ends.Ok
status_of_end (conversed.Ended ending.InPacket) = ends.Ok
status_of_end (conversed.Ended ending.ReadFault) = ends.InputFault
status_of_end (conversed.Ended ending.TooMuchInput) = ends.TooMuchInput
status_of_end conversed.OutputFault = ends.OutputFault
status_of_end conversed.OutOfMemory = ends.OutOfMemory

-- the line of a refusal: that of a session, or, of words, this program's own
abbrev pub TellsRefusal : Refusal → List ℕ → ExitStatus → Type 0
TellsRefusal refusal.Usage text status = text ≡ codes "usage: rept_gdb [open|bits|infer] EXE CORE TRACE [FROM] | rept_gdb maps CORE TRACE [FROM]" ++ 10 ∷ []
TellsRefusal r text status = SaysOrNoMemory r text status

-- why no dialog is held
abbrev pub TellsNoTalk : GdbError → List ℕ → ExitStatus → Type 0
TellsNoTalk (no_talk.Refused r) text status = TellsRefusal r text status
TellsNoTalk (no_talk.LoadFault name) text status = TellsName (string_bytes name) text status

-- the debugger was answered up to its first packet that needs a report, at most
abbrev pub MayHaveGreeted : DebugProcess → Type 0
MayHaveGreeted p = MayGreet p.input p.output

-- Of words that are read: the crash was debugged where the files are told, with a notice of where
-- its run begins. Words that aren't are usage, or there is no memory for them.
abbrev pub OpensAs : DebugProcess → Result (List (List ℕ)) Unreadable → GdbSession → Type 0
OpensAs p (Ok words) talk = IfSome p.file_store.before.files (λ files. IsDebugged (session_words words) files (streams p.input p.output p.errors) talk)
OpensAs p (Err why) talk = ⊥

abbrev pub RefusesAs : DebugProcess → Result (List (List ℕ)) Unreadable → GdbError → Type 0
RefusesAs p (Ok words) why = (status_of_no_talk why ≡ ends.OutOfMemory) ⊎ IfSome p.file_store.before.files (λ files. HasNoTalk (session_words words) files p.file_store why)
RefusesAs p (Err NotText) why = why ≡ no_talk.Refused refusal.Usage
RefusesAs p (Err OutOfMemory) why = why ≡ no_talk.Refused refusal.OutOfMemory

abbrev pub OpensTalk : DebugProcess → Result GdbSession GdbError → Type 0
OpensTalk p result =
    MatchResult result (λ talk. OpensAs p p.words talk) (λ why. RefusesAs p p.words why × MayHaveGreeted p × Notices p.errors)

-- A dialog was held, and the number is that of its end. Or there is none: why is written, after
-- what was noticed, and the number is that of its status.
abbrev pub AnswersDebugging : DebugProcess → ℕ → Type 0
AnswersDebugging p number =
    ((talk : GdbSession) × OpensAs p p.words talk × (number ≡ number_of_status (status_of_end talk.end)))
    ⊎ ((why : GdbError) × (noticed : Port) × RefusesAs p p.words why × MayHaveGreeted p × Notices (move p.errors.before noticed)
    × ((told : ExitStatus) × Delivers (TellsNoTalk why) (move noticed p.errors.after) told) × (number ≡ number_of_status (status_of_no_talk why)))
