use Rattle.std.proofs.Common.{◌≡◌, ◌==◌, ℕ, List, map, drop}
use Rattle.std.specs.List.{filter}
use Rattle.rept_streams.specs.Slices.Stamps.{context_of}
use Rattle.rept_streams.specs.Slices.Parts.{ToldSlice}
use Rattle.rept_streams.specs.Slices.Order.{slices_of}
use Rattle.rept_streams.specs.Slices.Checks.{first_fault}
use Rattle.rept_streams.specs.Slices.Many.{overlap_fault}
use Rattle.rept_streams.specs.Slices.Entries.{AreEntriesOf}
use Rattle.rept_streams.specs.Slices.Ends.{KeepTurn}
use Rattle.rept_streams.specs.declared.threads.walks.Walked.{Walked}
use Rattle.rept_streams.proofs.threads.meeting.overlap_fault.Given as goal

abbrev pub invariant-loop-process : goal.invariant-loop-process
invariant-loop-process l =
    (ts : List ToldSlice) → ((process : ℕ) → AreEntriesOf (map (λ (w : Walked). w.slice) (filter (λ (w : Walked). context_of w.slice.start == process) l.slices)) (slices_of process ts)) → KeepTurn ts
    → first_fault (overlap_fault ts) l.processes ≡ first_fault (overlap_fault ts) (drop l.process-index l.processes)
