-- A process that writes the trace of a log: what its words ask for, and the number that it ends
-- with. This project's own.
use Rattle.std.specs.Prelude.{ℕ, List, [], ◌∷◌, Result, Ok, Err, OnOk, IfErr}
use Rattle.rept_ports.specs.Port.{Port, PortMove}
use Rattle.rept_ports.specs.Shelves.{Loads}
use Rattle.rept_ports.specs.declared.arguments.Unreadable.{Unreadable}
use Rattle.rept_ports.specs.declared.arguments.Unreadable.TheVariants as unreadable
use Rattle.rept_simlog.specs.declared.refusal.SimLogRefusal.TheVariants as one
use Rattle.rept_simlog.specs.declared.hartlog.refusal.HartLogRefusal.TheVariants as several
use Rattle.rept_simlog.specs.declared.recording.logs.LogRefusal.TheVariants.{OneHart, Qemu, SeveralHarts}
use Rattle.rept_simlog.specs.Recording.Worked.{Inputs, WritesTrace, Ends}
use Rattle.rept_simlog.specs.declared.recording.stop.RecordError.{RecordError}
use Rattle.rept_simlog.specs.declared.recording.stop.RecordError.TheVariants as stop

-- the only word; or why none is taken
abbrev pub asked : Result (List (List ℕ)) Unreadable → Result (List ℕ) RecordError
asked (Ok []) = Err stop.Usage
asked (Ok (name ∷ [])) = Ok name
asked (Ok (name ∷ second ∷ more)) = Err stop.Usage
asked (Err unreadable.NotText) = Err stop.Usage
asked (Err unreadable.OutOfMemory) = Err stop.OutOfMemory

-- the trace was written, or this is why not
pub record IsTraceWritten {T : Type 0} (from : Inputs) (out : PortMove Port) (result : Result T RecordError) : Type 0 where
  pub ok : OnOk result (WritesTrace from out)
  pub err : IfErr result (Ends from out)
  pub loads : Loads from.file_store.before from.file_store.after result

abbrev pub number_of_stop : RecordError → ℕ
number_of_stop (stop.Refused (OneHart one.OutOfMemory)) = 11
number_of_stop (stop.Refused (Qemu one.OutOfMemory)) = 11
number_of_stop (stop.Refused (SeveralHarts several.OutOfMemory)) = 11
number_of_stop (stop.Refused other) = 1
number_of_stop stop.Usage = 2
number_of_stop stop.LoadFault = 3
number_of_stop stop.NoFile = 4
number_of_stop stop.TooLarge = 5
number_of_stop stop.InputFault = 9
number_of_stop stop.OutputFault = 10
number_of_stop stop.OutOfMemory = 11
number_of_stop stop.TooMuchInput = 12

-- 0 where the trace was written
abbrev pub number_of_end : {T : Type 0} → Result T RecordError → ℕ
number_of_end (Ok done) = 0
number_of_end (Err why) = number_of_stop why
