use Rattle.std.proofs.Common.{◌≡◌, ◌≤◌, ◌++◌, List, Ok, map, drop}
use Rattle.rept_path.specs.Moves.{◌>>=◌}
use Rattle.rept_streams.specs.Slices.Stretches.{RanSlice}
use Rattle.rept_streams.specs.Slices.Joins.{threads}
use Rattle.rept_streams.specs.Threads.Joining.{ground_of, AreRanInOrder, JoinsGoOn}
use Rattle.rept_streams.specs.Threads.Notes.{known_by}
use Rattle.rept_streams.proofs.threads.joins.Joins.threads.Given as goal

abbrev pub invariant-loop-note : goal.invariant-loop-note
invariant-loop-note l =
    ((rs : List RanSlice) → AreRanInOrder l.fn.self.stretches.items l.walked rs
    → threads (ground_of l.fn.self) l.fn.self.count (map known_by l.notes) rs ≡ (threads (ground_of l.fn.self) l.self.count (map known_by (drop l.note-index l.notes)) rs >>= (λ others. Ok (l.threads ++ others))))
    × JoinsGoOn l.fn.self l.self l.self.count × (l.self.count ≤ 65536)
