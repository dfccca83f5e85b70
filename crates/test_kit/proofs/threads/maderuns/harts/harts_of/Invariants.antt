use Rattle.std.proofs.Common.{◌≡◌, ℕ, ◌+◌, ◌++◌}
use Rattle.test_kit.specs.Threads.Maderuns.Harts.{harts_of}
use Rattle.test_kit.proofs.threads.maderuns.harts.harts_of.Given as goal

abbrev pub invariant-loop-stream : goal.invariant-loop-stream
invariant-loop-stream l = (n : ℕ) → l.stream + n ≡ l.fn.streams → l.harts ++ harts_of l.threads l.turns n l.stream ≡ harts_of l.threads l.turns l.fn.streams 0
