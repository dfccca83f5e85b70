use Rattle.std.proofs.Common.{ℕ, List, drop}
use Rattle.rept_trace.specs.declared.packet.Packet.{Packet}
use Rattle.rept_path.specs.Program.{code_of}
use Rattle.rept_streams.specs.Slices.Parts.{slices_told}
use Rattle.rept_streams.specs.Slices.Skipping.{kept}
use Rattle.rept_streams.specs.Slices.Entries.{AreEntriesOf}
use Rattle.rept_streams.proofs.ThreadsLemmas.Walking.{SoFar}
use Rattle.rept_streams.proofs.threads.walks.walk_all.Given as goal

abbrev pub invariant-loop-i : goal.invariant-loop-i
invariant-loop-i l = (from : ℕ) (lists : List (List Packet)) → AreEntriesOf l.slices (slices_told (kept from lists)) → SoFar (code_of l.program) (slices_told (kept from lists)) (drop l.i l.slices) l.walks
