-- The legs and faults of a packet by whether the trace waits, for proofs that go by cases.
use Rattle.std.proofs.Common.{List, Bool}
use Rattle.rept_path.specs.Code.{Code}
use Rattle.rept_isa.specs.declared.row.StepRow.{StepRow}
use Rattle.rept_trace.specs.declared.packet.Packet.{Packet}
use Rattle.rept_path.specs.declared.fault.PathFault.{PathFault}
use Rattle.rept_path.specs.Route.{Met, by_waiting, RunningLeg, RunningFault, WaitingLeg, WaitingFault}

abbrev pub LegIn : Code → Packet → Bool → Met → List StepRow → Type 0
LegIn code packet waits met leg = by_waiting waits (WaitingLeg code packet met leg) (RunningLeg code packet met leg)

abbrev pub FaultIn : Code → Packet → Bool → Met → PathFault → Type 0
FaultIn code packet waits met e = by_waiting waits (WaitingFault code packet met e) (RunningFault code packet met e)
