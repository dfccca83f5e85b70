use Rattle.std.proofs.Common.{length}
use Rattle.rept_trace.specs.Packets.{rest_of, number_of}
use Rattle.rept_trace.proofs.Going.{Reached}
use Rattle.rept_trace.proofs.packets.Packets.go_through.Given as goal

abbrev pub invariant-loop-count : goal.invariant-loop-count
invariant-loop-count l = Reached (number_of l.self) (rest_of l.self) l.count (number_of l.packets) (rest_of l.packets)

abbrev pub decreases-loop-count : goal.decreases-loop-count
decreases-loop-count l = length (rest_of l.packets).bytes
