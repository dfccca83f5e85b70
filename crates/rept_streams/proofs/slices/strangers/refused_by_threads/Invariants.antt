use Rattle.std.proofs.Common.{List, drop}
use Rattle.rept_streams.specs.Slices.Parts.{ToldSlice}
use Rattle.rept_streams.specs.Slices.Entries.{AreEntriesOf}
use Rattle.rept_streams.proofs.SlicesLemmas.StrangerLemmas.{Judges}
use Rattle.rept_streams.proofs.slices.strangers.refused_by_threads.Given as goal

abbrev pub invariant-loop-slice : goal.invariant-loop-slice
invariant-loop-slice l = (ts : List ToldSlice) → AreEntriesOf l.slices ts → Judges l.processes ts (drop l.slice-index l.slices)
