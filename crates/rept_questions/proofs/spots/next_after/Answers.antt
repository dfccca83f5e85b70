use Rattle.std.proofs.Common.{sym, ◌∙◌}
use Rattle.rept_questions.proofs.SpotLemmas.{next_found, next_passed}
use Rattle.rept_questions.proofs.spots.next_after.Goals as goal

pub returns-then-point-cursor : goal.returns-then-point-cursor
returns-then-point-cursor c = sym (c.loop-point.invariant ∙ next_found c.args.cursor c.args.points.now c.loop-point.point-index 0 c.loop-point-test.true c.if-point-cursor.true)

pub loop-point-preserved : goal.loop-point-preserved
loop-point-preserved c = c.loop-point.invariant ∙ next_passed c.args.cursor c.args.points.now c.loop-point.point-index 0 c.loop-point-test.true c.if-point-cursor.false
