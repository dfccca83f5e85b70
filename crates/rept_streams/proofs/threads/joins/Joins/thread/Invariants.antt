use Rattle.std.proofs.Common.{◌≤◌, List, drop}
use Rattle.rept_streams.specs.Slices.Stretches.{RanSlice}
use Rattle.rept_streams.specs.Threads.Kept.{AreRan}
use Rattle.rept_streams.specs.Threads.Joining.{ending_of, JoinsGoOn}
use Rattle.rept_streams.proofs.ThreadsLemmas.Joinery.{Joining}
use Rattle.rept_streams.proofs.threads.joins.Joins.thread.Given as goal

abbrev pub invariant-loop-i : goal.invariant-loop-i
invariant-loop-i l =
    ((rs : List RanSlice) → AreRan l.fn.self.stretches.items l.walked rs → Joining (ending_of l.fn.self l.pc) l.fn.self.count rs l.fn.self.stretches.items (drop l.i l.walked) l.self.count l.rows)
    × JoinsGoOn l.fn.self l.self l.self.count × (l.self.count ≤ 65536)
