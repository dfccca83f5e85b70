use Rattle.std.proofs.Common.{◌≡◌, ◌++◌, length, drop}
use Rattle.rept_streams.specs.Threads.Kept.{kept_by}
use Rattle.rept_streams.proofs.threads.walks.add_slices.Given as goal

abbrev pub invariant-loop-i : goal.invariant-loop-i
invariant-loop-i l =
    l.fn.walked.items ++ kept_by l.number (length l.stretch.walk.steps) l.stretch.marks.items l.slices ≡ l.walked.items ++ kept_by l.number (length l.stretch.walk.steps) (drop l.i l.stretch.marks.items) (drop l.i l.slices)
