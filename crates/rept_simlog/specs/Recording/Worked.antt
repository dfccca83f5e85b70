-- What the program writes, and what each of its ends says of the file store, the input and the
-- output. This project's own.
use Rattle.std.specs.Prelude.{◌≡◌, ◌⊎◌, ℕ, ◌<◌, ◌≤◌, List, length, Some, IfSome}
use Rattle.std.specs.Io.KnownBytes.{Appends}
use Rattle.rept_ports.specs.Causes.{OneFault, AppendsPrefix}
use Rattle.rept_ports.specs.Port.{Port, PortMove}
use Rattle.rept_ports.specs.Shelves.{Shelved, Files, LoadFails}
use Rattle.rept_ports.specs.declared.traits.LoadFault.TheVariants as load
use Rattle.rept_simlog.specs.Recording.Logs.{IsRecordedLog, IsRefusedLog}
use Rattle.rept_simlog.specs.declared.recording.work.InputStop.{InputStop}
use Rattle.rept_simlog.specs.declared.recording.work.InputStop.TheVariants as input
use Rattle.rept_simlog.specs.declared.recording.stop.RecordError.{RecordError}
use Rattle.rept_simlog.specs.declared.recording.stop.RecordError.TheVariants as stop

-- the most bytes of an executable, and of a log
abbrev pub exe_limit : ℕ
exe_limit = 67108864

abbrev pub log_limit : ℕ
log_limit = 268435456

-- what a trace is made from: the executable's name, and the file store and the input before the
-- call and after it
pub record Inputs : Type 0 where
  pub name : List ℕ
  pub file_store : PortMove Shelved
  pub input : PortMove Port

abbrev pub inputs_of : List ℕ → PortMove Shelved → PortMove Port → Inputs
inputs_of name file_store input = record { name = name; file_store = file_store; input = input }

-- no call of the file store failed, and none of the input
abbrev pub IsFileStoreCalm : Inputs → Type 0
IsFileStoreCalm from = from.file_store.after.faults ≡ from.file_store.before.faults

abbrev pub IsInputCalm : Inputs → Type 0
IsInputCalm from = from.input.after.faults ≡ from.input.before.faults

-- the file of this name is there and within its limit
abbrev pub IsFile : Files → List ℕ → List ℕ → Type 0
IsFile files name exe = (files name ≡ Some exe) × (length exe ≤ exe_limit)

-- the executable was loaded; where the files are told, it is one of them
pub record IsLoaded (from : Inputs) : Type 0 where
  pub calm : IsFileStoreCalm from
  pub file : IfSome from.file_store.before.files (λ files. (exe : List ℕ) × IsFile files from.name exe)

-- the executable was loaded and the whole log was read; where both are told, P holds of them
pub record AreInputsRead (from : Inputs) (P : List ℕ → List ℕ → Type 0) : Type 0 where
  pub loaded : IsLoaded from
  pub input_calm : IsInputCalm from
  pub hold : IfSome from.file_store.before.files (λ files. IfSome from.input.before.bytes (λ log. (exe : List ℕ) × IsFile files from.name exe × (length log ≤ log_limit) × P exe log))

-- the trace is that of the log that the input has left, over the executable of this name
abbrev pub Makes : Inputs → List ℕ → Type 0
Makes from trace = AreInputsRead from (λ exe log. IsRecordedLog exe log trace)

-- the input is as it was
abbrev pub IsUnread : Inputs → Type 0
IsUnread from = from.input.after ≡ from.input.before

-- Why the input isn't read to its end: a read failed, the log has more bytes than its limit, or
-- memory ran out.
abbrev pub ReadStops : PortMove Port → InputStop → Type 0
ReadStops port input.Failed = OneFault port.before.faults port.after.faults
ReadStops port input.TooMuch = (port.after.faults ≡ port.before.faults) × IfSome port.before.bytes (λ log. log_limit < length log)
ReadStops port input.OutOfMemory = port.after.faults ≡ port.before.faults

-- Why no trace is made. The executable isn't loaded: by the files where they are told, else by the
-- count of the file store's faults; and the input is as it was. Or it is loaded, and the input
-- isn't read to its end. Or the log is refused. Memory may run out at any time, but no read has
-- failed then.
abbrev pub Stops : Inputs → RecordError → Type 0
Stops from stop.Usage = ⊥
Stops from stop.LoadFault = LoadFails from.file_store.before from.file_store.after from.name exe_limit load.Failed × IsUnread from
Stops from stop.NoFile = LoadFails from.file_store.before from.file_store.after from.name exe_limit load.Missing × IsUnread from
Stops from stop.TooLarge = LoadFails from.file_store.before from.file_store.after from.name exe_limit load.TooLarge × IsUnread from
Stops from stop.InputFault = IsLoaded from × ReadStops from.input input.Failed
Stops from stop.TooMuchInput = IsLoaded from × ReadStops from.input input.TooMuch
Stops from (stop.Refused refusal) = AreInputsRead from (λ exe log. IsRefusedLog exe log refusal)
Stops from stop.OutputFault = ⊥
Stops from stop.OutOfMemory = IsInputCalm from

-- a trace was made, and all of it was written, without a fault
pub record WritesTrace (from : Inputs) (out : PortMove Port) : Type 0 where
  pub trace : List ℕ
  pub made : Makes from trace
  pub written : Appends out.before.bytes out.after.bytes trace
  pub calm : out.after.faults ≡ out.before.faults

-- a trace was made, and one write failed: a part of the trace that begins it was written
pub record FailsToWrite (from : Inputs) (out : PortMove Port) : Type 0 where
  pub trace : List ℕ
  pub made : Makes from trace
  pub written : AppendsPrefix out.before.bytes out.after.bytes trace
  pub fault : OneFault out.before.faults out.after.faults

-- No trace was made, and the output is as it was; or the output failed.
abbrev pub Ends : Inputs → PortMove Port → RecordError → Type 0
Ends from out s = (Stops from s × (out.after ≡ out.before)) ⊎ ((s ≡ stop.OutputFault) × FailsToWrite from out)
