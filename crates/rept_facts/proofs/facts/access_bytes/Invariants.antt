use Rattle.rept_timeline.specs.Paths.{timeline}
use Rattle.std.proofs.Common.{◌≡◌, ◌≤◌, ◌*◌}
use Rattle.rept_facts.specs.Sums.{sum_to}
use Rattle.rept_facts.specs.Room.{places_of}
use Rattle.rept_facts.proofs.facts.access_bytes.Given as goal

abbrev pub invariant-loop-point : goal.invariant-loop-point
invariant-loop-point g l = record {
  few : l.sum ≤ 8 * l.point;
  sum : l.sum ≡ sum_to (λ i. places_of g.R.RowRules.rules ((timeline l.paths).legs.row i)) l.point;
}
