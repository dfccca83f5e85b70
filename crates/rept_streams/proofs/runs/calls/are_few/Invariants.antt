use Rattle.std.proofs.Common.{◌≡◌, ◌+◌, take}
use Rattle.rept_timeline.specs.Small.{rows_in}
use Rattle.rept_streams.proofs.runs.calls.are_few.Given as goal

abbrev pub invariant-loop-thread : goal.invariant-loop-thread
invariant-loop-thread l = l.room + rows_in (take l.thread-index l.threads) ≡ l.most
