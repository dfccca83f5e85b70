-- The packet from which a run is rebuilt for a debugger, and the run that is analysed for it. This
-- project's own.
use Rattle.std.specs.Prelude.{◌≡◌, ◌≢◌, ◌⊎◌, ◌<◌, ◌≤◌, ℕ, suc, List, length, Result, IfOk, IfErr}
use Rattle.rept_found.specs.Crash.{Crash}
use Rattle.rept_path.specs.declared.fault.PathFault.{PathFault}
use Rattle.rept_path.specs.declared.fault.PathFault.TheVariants.{NoStart, OutOfMemory, TooLong}
use Rattle.rept_steps.specs.declared.run.Run.{Run}
use Rattle.rept_opening.specs.Opened.{CrashTrace}
use Rattle.rept_opening.specs.TraceRun.{HasNoRunOf, IsRunFor, IsRunOf}
use Rattle.rept_opening.specs.declared.load.OpenOptions.{OpenOptions}
use Rattle.rept_debug.specs.declared.begin.RunFrom.{RunFrom}
use Rattle.rept_debug.specs.declared.begin.RefusalKind.{RefusalKind}
use Rattle.rept_debug.specs.declared.begin.RefusalKind.TheVariants as kind

-- from the packet of this number on the run has too many steps
abbrev pub IsTooLong : Crash → List ℕ → ℕ → Type 0
IsTooLong crash trace from = (packet : ℕ) × HasNoRunOf crash trace from (TooLong packet)

-- what the search for a later packet tells apart in a refusal
abbrev pub IsKind : PathFault → RefusalKind → Type 0
IsKind fault kind.NoStart = (count : ℕ) × (fault ≡ NoStart count)
IsKind fault kind.OutOfMemory = fault ≡ OutOfMemory
IsKind fault kind.Other = (fault ≢ OutOfMemory) × ((count : ℕ) → fault ≢ NoStart count)

-- From the packet of this number on there is no start: no start packet may begin the run, or a
-- packet comes where only one may, as `NoStart` tells; or there are not so many packets, since the
-- trace has no more bytes.
abbrev pub HasNoStart : Crash → List ℕ → ℕ → Type 0
HasNoStart crash trace from = ((count : ℕ) × HasNoRunOf crash trace from (NoStart count)) ⊎ (length trace ≤ from)

-- from the packet of this number on there is no run
abbrev pub HasNoRun : Crash → List ℕ → ℕ → Type 0
HasNoRun crash trace from = (run : Run) → IsRunOf crash trace from run → ⊥

-- the run from the packet of this number on is refused for this fault, and not for want of a start
pub record IsRefusedAt (crash : Crash) (trace : List ℕ) (from : ℕ) (fault : PathFault) : Type 0 where
  pub fails : HasNoRunOf crash trace from fault
  pub not_start : (count : ℕ) → fault ≢ NoStart count
  pub none : HasNoRun crash trace from
  pub starts : (count : ℕ) → HasNoRunOf crash trace from (NoStart count) → ⊥

-- The run from the packet before this one is refused, and not for want of a start. A trace has no
-- more packets than bytes.
pub record IsFirstFitting (crash : Crash) (trace : List ℕ) (from : ℕ) : Type 0 where
  pub before : ℕ
  pub inside : 0 < length trace → before < length trace
  pub next : from ≡ suc before
  pub fault : PathFault
  pub refused : IsRefusedAt crash trace before fault

-- the packet that is asked for; or, where that is the first one and the run from there has too many
-- steps, a later one, while the run from the packet before it is refused
abbrev pub BeginsAt : Crash → List ℕ → ℕ → ℕ → Type 0
BeginsAt crash trace asked from = (from ≡ asked) ⊎ ((asked ≡ 0) × IsTooLong crash trace 0 × IsFirstFitting crash trace from)

-- The run from a packet on is refused for this fault, and from the next packet on there is no start.
pub record IsFaultToTheEnd (crash : Crash) (trace : List ℕ) (fault : PathFault) : Type 0 where
  pub from : ℕ
  pub inside : 0 < length trace → from < length trace
  pub refused : IsRefusedAt crash trace from fault
  pub next : HasNoStart crash trace (suc from)

-- there is no run from the packet that is asked for, which isn't the first one, or whose fault
-- isn't that of too many steps; or it is the first one, its run has too many, and one from a later
-- packet is refused, after which there is no start
abbrev pub NeverBegins : Crash → List ℕ → ℕ → PathFault → Type 0
NeverBegins crash trace asked fault =
    (HasNoRunOf crash trace asked fault × ((0 < asked) ⊎ ((packet : ℕ) → fault ≢ TooLong packet)))
    ⊎ ((asked ≡ 0) × IsTooLong crash trace 0 × IsFaultToTheEnd crash trace fault)

-- what is begun of a trace, where a packet is asked for: a run of it, from that packet or a later
-- one; or why there is none. Want of memory is none of the definition's.
pub record AreBegun (crash : Crash) (trace : List ℕ) (asked : ℕ) (result : Result RunFrom PathFault) : Type 0 where
  pub run : IfOk result (λ begun. IsRunOf crash trace begun.from begun.run)
  pub from : IfOk result (λ begun. BeginsAt crash trace asked begun.from)
  pub refused : IfErr result (λ e. (e ≡ OutOfMemory) ⊎ NeverBegins crash trace asked e)

-- how the crash is studied, with the run from the packet of this number on
abbrev pub beginning : OpenOptions → ℕ → OpenOptions
beginning manner from = record { from = from; domain = manner.domain }

-- What is begun of the trace of a crash for an analysis: the run that is analysed, from the packet
-- that is asked for or a later one; or why there is none. Want of memory is none of the
-- definition's.
pub record IsAnalysisBegun (t : CrashTrace) (result : Result RunFrom PathFault) : Type 0 where
  pub run : IfOk result (λ begun. IsRunFor t.crash t.trace (beginning t.manner begun.from) begun.run)
  pub from : IfOk result (λ begun. BeginsAt t.crash t.trace t.manner.from begun.from)
  pub refused : IfErr result (λ e. (e ≡ OutOfMemory) ⊎ NeverBegins t.crash t.trace t.manner.from e)
