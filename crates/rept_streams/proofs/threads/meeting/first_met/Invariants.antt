use Rattle.std.proofs.Common.{List, drop}
use Rattle.rept_streams.specs.Slices.Parts.{ToldSlice}
use Rattle.rept_streams.specs.Slices.Entries.{AreEntriesOf}
use Rattle.rept_streams.specs.Slices.Ends.{InTurn}
use Rattle.rept_streams.proofs.ThreadsLemmas.MeetLemmas.{Meets, slices_in}
use Rattle.rept_streams.proofs.threads.meeting.first_met.Given as goal

abbrev pub invariant-loop-i : goal.invariant-loop-i
invariant-loop-i l = (ts : List ToldSlice) → AreEntriesOf (slices_in l.slices) ts → InTurn ts → Meets ts (drop l.i l.slices)
