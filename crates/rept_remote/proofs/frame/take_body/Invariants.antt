use Rattle.std.proofs.Common.{ℕ, List, ◌-◌}
use Rattle.rept_ports.specs.Port.{move}
use Rattle.rept_remote.specs.Reading.{Passed, most_input, taking}
use Rattle.rept_remote.specs.Steps.{IsBody}
use Rattle.rept_remote.proofs.frame.take_body.Given as goal

abbrev pub invariant-loop-byte : goal.invariant-loop-byte
invariant-loop-byte g l = record {
  body : List ℕ;
  known : IsBody l.kept.items l.told body;
  passed : Passed (taking (move l.fn.count l.count) (move (g.S.Source.port l.fn.source) (g.S.Source.port l.source)) body);
}

abbrev pub decreases-loop-byte : goal.decreases-loop-byte
decreases-loop-byte g l = most_input - l.count
