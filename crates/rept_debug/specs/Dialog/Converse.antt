-- A whole dialog over an input and an output, and how it ends. This project's own.
use Rattle.std.specs.Prelude.{◌≡◌, ℕ, List, [], ◌++◌, length, Bool, true, false}
use Rattle.std.specs.Io.KnownBytes.{Appends, Consumes}
use Rattle.rept_ports.specs.Causes.{OneFault, AppendsPrefix}
use Rattle.rept_ports.specs.Port.{Port, PortMove, move}
use Rattle.rept_remote.specs.Frames.{Arrived, Arrives}
use Rattle.rept_remote.specs.Reading.{Stops, taking}
use Rattle.rept_remote.specs.declared.arrival.Ending.{Ending}
use Rattle.rept_findings.specs.Shown.{SessionTold}
use Rattle.rept_stub.specs.declared.answers.Setting.{Setting}
use Rattle.rept_debug.specs.Dialog.Dialog.{IsTurn, Talks, start_at}
use Rattle.rept_debug.specs.declared.dialog.turn.Dialog.{Dialog}
use Rattle.rept_debug.specs.declared.dialog.conversation.SessionEnd.{SessionEnd}
use Rattle.rept_debug.specs.declared.dialog.conversation.SessionEnd.TheVariants as conversed

-- who talks: what is told of what was found and besides it, and the dialog as it began
pub record Parties : Type 1 where
  pub told : SessionTold
  pub setting : Setting
  pub start : Dialog

-- a dialog that begins over what is told
abbrev pub parties_over : SessionTold → Setting → Parties
parties_over t setting = record { told = t; setting = setting; start = start_at t.shown }

-- The rules of a dialog: what was read and written since it began, and where it is then; what is
-- written at an arrival, and where it is after that.
pub record DialogRules (D : Type 0) : Type 1 where
  pub talks : List ℕ → List ℕ → D → Type 0
  pub turns : D → Arrived → List ℕ → D → Type 0

-- those of a dialog over what is told
abbrev pub rules_of : Parties → DialogRules Dialog
rules_of p = record { talks = Talks p.told p.setting p.start; turns = IsTurn p.told p.setting }

-- the bytes that were taken of an input and those that were written to an output, neither of which
-- failed, are those of the arrivals so far and of what was written at each
pub record Progress {D : Type 0} (rules : DialogRules D) (source sink : PortMove Port) (read : List ℕ) (now : D) : Type 0 where
  pub written : List ℕ
  pub talks : rules.talks read written now
  pub consumed : Consumes source.before.bytes source.after.bytes read
  pub wrote : Appends sink.before.bytes sink.after.bytes written
  pub read_calm : source.after.faults ≡ source.before.faults
  pub write_calm : sink.after.faults ≡ sink.before.faults

-- one arrival more came after that
pub record Arrival {D : Type 0} (rules : DialogRules D) (source sink : PortMove Port) : Type 0 where
  pub read : List ℕ
  pub now : D
  pub got : List ℕ
  pub what : Arrived
  pub middle : Port
  pub progress : Progress rules (move source.before middle) sink read now
  pub consumed : Consumes middle.bytes source.after.bytes got
  pub arrives : Arrives got what
  pub calm : source.after.faults ≡ middle.faults

-- the input ended or failed, or too much of it came, between arrivals or within one
pub record TalkEnded {D : Type 0} (rules : DialogRules D) (source sink : PortMove Port) (why : Ending) : Type 0 where
  pub read : List ℕ
  pub now : D
  pub got : List ℕ
  pub middle : Port
  pub count : PortMove ℕ
  pub progress : Progress rules (move source.before middle) sink read now
  pub counted : count.before ≡ length read
  pub stops : Stops (taking count (move middle source.after) got) why

-- the debugger left
pub record Left (parties : Parties) (source sink : PortMove Port) : Type 0 where
  pub read : List ℕ
  pub now : Dialog
  pub progress : Progress (rules_of parties) source sink read now
  pub left : now.is_over ≡ true

-- the output failed in what is written at an arrival
pub record Broke {D : Type 0} (rules : DialogRules D) (source sink : PortMove Port) : Type 0 where
  pub before : Port
  pub arrival : Arrival rules source (move sink.before before)
  pub text : List ℕ
  pub next : D
  pub turn : rules.turns arrival.now arrival.what text next
  pub wrote : AppendsPrefix before.bytes sink.after.bytes text
  pub fault : OneFault before.faults sink.after.faults

-- the end of a dialog: the debugger left; nothing arrives any more; the output failed; or memory
-- ran out for the answer to an arrival
abbrev pub Converses : Parties → PortMove Port → PortMove Port → SessionEnd → Type 0
Converses parties source sink conversed.Left = Left parties source sink
Converses parties source sink (conversed.Ended why) = TalkEnded (rules_of parties) source sink why
Converses parties source sink conversed.OutputFault = Broke (rules_of parties) source sink
Converses parties source sink conversed.OutOfMemory = Arrival (rules_of parties) source sink
