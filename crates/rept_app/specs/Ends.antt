-- How a call ends: its status, and what faults of its ports were counted.
use Rattle.std.specs.Prelude.{◌≡◌, ◌⊎◌, ℕ}
use Rattle.rept_ports.specs.Causes.{OneFault}
use Rattle.rept_ports.specs.Port.{Port, PortMove}
use Rattle.rept_opening.specs.declared.status.ExitStatus.{ExitStatus}
use Rattle.rept_opening.specs.declared.status.ExitStatus.TheVariants as ends

-- the output failed or memory ran out
abbrev pub Stopped : ExitStatus → Type 0
Stopped status = (status ≡ ends.OutputFault) ⊎ (status ≡ ends.OutOfMemory)

-- the statuses of a call that holds a session
abbrev pub EndsSession : ExitStatus → Type 0
EndsSession status = (status ≡ ends.Ok) ⊎ (status ≡ ends.InputFault) ⊎ (status ≡ ends.TooMuchInput) ⊎ Stopped status

-- a call that ends so, unless it stops before
abbrev pub Yields : ExitStatus → ExitStatus → Type 0
Yields expected status = (status ≡ expected) ⊎ Stopped status

-- the line of a failed input is written, or the output failed
abbrev pub TellsInputFault : ExitStatus → Type 0
TellsInputFault status = (status ≡ ends.InputFault) ⊎ (status ≡ ends.OutputFault)

-- The count of a port's faults stands as it was; or one fault was counted, and the call ended so.
abbrev pub FaultEnds : ℕ → ℕ → Type 0 → Type 0
FaultEnds before now EndsSo = (now ≡ before) ⊎ (OneFault before now × EndsSo)

-- A status that tells a fault of the input or the output comes only where that port counted one. A
-- fault of either ends the call: no other is counted, and the status tells it, unless the line of
-- an input fault can't be written.
pub record PortsEnd (source sink : PortMove Port) (status : ExitStatus) : Type 0 where
  pub input : status ≡ ends.InputFault → OneFault source.before.faults source.after.faults
  pub input_ends : FaultEnds source.before.faults source.after.faults (TellsInputFault status)
  pub output : status ≡ ends.OutputFault → OneFault sink.before.faults sink.after.faults
  pub output_ends : FaultEnds sink.before.faults sink.after.faults (status ≡ ends.OutputFault)

-- each fault has its cause and ends the session, and no other status comes than these
pub record IsCaused (source sink : PortMove Port) (status : ExitStatus) : Type 0 where
  pub ports : PortsEnd source sink status
  pub answered : EndsSession status
