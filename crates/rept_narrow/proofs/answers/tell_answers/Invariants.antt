use Rattle.std.proofs.Common.{◌≡◌}
use Rattle.rept_narrow.specs.Admitted.{Story}
use Rattle.rept_narrow.specs.Rules.{KeepsSets}
use Rattle.rept_narrow.proofs.answers.tell_answers.Given as goal

abbrev pub invariant-loop-index : goal.invariant-loop-index
invariant-loop-index g l = record {
  points : l.table.points ≡ l.fn.table.points;
  keeps : (story : Story) → story.rows ≡ l.path.rows.now → story.image_end ≡ l.path.image_end → story.premises ≡ g.P.PathPremises.premises l.premises → KeepsSets story l.fn.table l.table;
}
