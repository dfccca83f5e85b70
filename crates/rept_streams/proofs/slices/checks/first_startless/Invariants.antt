use Rattle.std.proofs.Common.{ℕ, List, drop}
use Rattle.rept_trace.specs.declared.packet.Packet.{Packet}
use Rattle.rept_trace.specs.Stream.{Stream}
use Rattle.rept_streams.specs.Slices.Checks.{startless}
use Rattle.rept_streams.specs.Slices.Windows.{AreAll}
use Rattle.rept_streams.proofs.SlicesLemmas.Checking.{Rest}
use Rattle.rept_streams.proofs.slices.checks.first_startless.Given as goal

abbrev pub invariant-loop-window : goal.invariant-loop-window
invariant-loop-window l = (from : ℕ) (streams : List Stream) (lists : List (List Packet)) → AreAll from streams lists l.windows → Rest (startless from) from lists (drop l.window-index l.windows) l.window-index
