use Rattle.rept_timeline.specs.Paths.{timeline}
use Rattle.std.proofs.Common.{◌≡◌, ◌≤◌, ◌*◌}
use Rattle.rept_log.specs.Around.{around}
use Rattle.rept_log.specs.Known.{known_of}
use Rattle.rept_facts.specs.Cells.{bytes_from}
use Rattle.rept_facts.proofs.facts.CrashFacts.byte_cells_from.Given as goal

abbrev pub invariant-loop-k : goal.invariant-loop-k
invariant-loop-k g l = record {
  value : l.sum ≡ bytes_from (around (timeline l.self.paths).moments (known_of g.B.ByteFacts.store l.self.known) l.i) l.start l.k;
  few : l.sum ≤ 2 * l.k;
}
