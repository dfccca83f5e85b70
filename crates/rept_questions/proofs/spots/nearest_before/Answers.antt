use Rattle.std.proofs.Common.{List, ℕ, ◌∙◌, ap, reverse}
use Rattle.std.proofs.lemmas.List.{take_all}
use Rattle.std.specs.Prelude.{nat_lt}
use Rattle.std.specs.List.{find}
use Rattle.rept_questions.proofs.SpotLemmas.{newest_kept, newest_taken}
use Rattle.rept_questions.proofs.spots.nearest_before.Goals.{then-point-cursor, else-point-cursor}
use Rattle.rept_questions.proofs.spots.nearest_before.Goals as goal

pub loop-point-preserved : goal.loop-point-preserved
loop-point-preserved c = elim c.if-point-cursor.branch [
  | then-point-cursor w ↦ w.nearest-is ∙ newest_taken c.args.cursor c.args.points.now c.loop-point.point-index 0 c.loop-point-test.true w.if-point-cursor.true
  | else-point-cursor w ↦ w.nearest-is ∙ c.loop-point.invariant ∙ newest_kept c.args.cursor c.args.points.now c.loop-point.point-index 0 c.loop-point-test.true w.if-point-cursor.false
]

pub returns : goal.returns
returns c = c.loop-point.invariant ∙ ap (λ (xs : List ℕ). find (λ p. nat_lt p c.args.cursor) (reverse xs)) (take_all c.loop-point.point-index c.args.points.now c.loop-point-test.false)
