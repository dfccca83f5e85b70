use Rattle.std.proofs.Common.{◌≡◌, ◌≤◌}
use Rattle.std.specs.Prelude.{slice_get}
use Rattle.std.specs.List.{find}
use Rattle.rept_questions.specs.Trail.{falling, writes_register}
use Rattle.rept_questions.proofs.trail.register_source.Given as goal

abbrev pub invariant-back : goal.invariant-back
invariant-back l = record {
  same : find (λ j. writes_register l.register (slice_get l.rows j)) (falling l.point) ≡ find (λ j. writes_register l.register (slice_get l.rows j)) (falling l.below);
  within : l.below ≤ l.point;
}

abbrev pub decreases-back : goal.decreases-back
decreases-back l = l.below
