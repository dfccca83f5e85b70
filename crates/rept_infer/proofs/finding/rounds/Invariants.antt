use Rattle.std.proofs.Common.{◌≡◌, ℕ}
use Rattle.rept_machine.specs.State.{State}
use Rattle.rept_narrow.specs.Admitted.{Story}
use Rattle.rept_narrow.specs.Sweeps.{AreKnown, IsFound}
use Rattle.rept_infer.proofs.finding.rounds.Given as goal

abbrev pub invariant-loop : goal.invariant-loop
invariant-loop g l = record {
  points : l.found.table.points ≡ l.initial.found.table.points;
  keeps : (story : Story) (run : ℕ → State) → story.rows ≡ l.earlier.1.rows.now → story.image_end ≡ l.earlier.1.image_end → story.premises ≡ g.P.PathPremises.premises l.premises → AreKnown story run (g.K.KnownPath.byte l.known) → IsFound story run l.initial.found.table l.initial.found.on l.initial.found.back → IsFound story run l.found.table l.found.on l.found.back;
}
