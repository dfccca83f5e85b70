use Rattle.std.proofs.Common.{length}
use Rattle.rept_trace.specs.Packets.{rest_of, number_of}
use Rattle.rept_path.proofs.Surveying.{Seen}
use Rattle.rept_path.proofs.window.go_through.Given as goal

abbrev pub invariant-loop-packet : goal.invariant-loop-packet
invariant-loop-packet l = Seen (number_of l.packets) (rest_of l.packets) l.from l.count (number_of l.rest) (rest_of l.rest) l.begin

abbrev pub decreases-loop-packet : goal.decreases-loop-packet
decreases-loop-packet l = length (rest_of l.rest).bytes
