use Rattle.std.proofs.Common.{◌≡◌, ◌≤◌, ◌-◌, length}
use Rattle.std.specs.Io.KnownBytes.{Consumes}
use Rattle.rept_simlog.proofs.recording.work.read_all.Given as goal

abbrev pub invariant-loop-count : goal.invariant-loop-count
invariant-loop-count g l = record {
  bytes : Consumes (g.S.Source.port l.initial.input).bytes (g.S.Source.port l.input).bytes l.log.items;
  calm : (g.S.Source.port l.input).faults ≡ (g.S.Source.port l.initial.input).faults;
  within : length l.log.items ≤ 268435456;
}

abbrev pub decreases-loop-count : goal.decreases-loop-count
decreases-loop-count g l = 268435456 - length l.log.items
