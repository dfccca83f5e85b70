use Rattle.std.proofs.Common.{◌≡◌, ℕ, List, length}
use Rattle.rept_trace.specs.Streams.{AreStreamsThen}
use Rattle.rept_trace.proofs.streams.after_streams.Given as goal

abbrev pub invariant-loop-s : goal.invariant-loop-s
invariant-loop-s l = (streams : List (List ℕ)) × (length streams ≡ l.s) × AreStreamsThen l.bytes streams l.rest
