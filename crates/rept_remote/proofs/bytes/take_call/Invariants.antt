use Rattle.std.proofs.Common.{◌≡◌, ℕ, List, ◌-◌, false}
use Rattle.rept_ports.specs.Port.{move}
use Rattle.rept_remote.specs.Frames.{has_call}
use Rattle.rept_remote.specs.Reading.{Passed, most_input, taking}
use Rattle.rept_remote.proofs.bytes.take_call.Given as goal

abbrev pub invariant-loop-byte : goal.invariant-loop-byte
invariant-loop-byte g l = record {
  noise : List ℕ;
  quiet : has_call noise ≡ false;
  passed : Passed (taking (move l.fn.count l.count) (move (g.S.Source.port l.fn.source) (g.S.Source.port l.source)) noise);
}

abbrev pub decreases-loop-byte : goal.decreases-loop-byte
decreases-loop-byte g l = most_input - l.count
