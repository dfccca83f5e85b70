use Rattle.std.proofs.Common.{sym, subst, ◌∙◌}
use Rattle.rept_moments.specs.declared.course.NumberedRun.{NumberedRun}
use Rattle.rept_steps.specs.Runs.{course_of}
use Rattle.rept_timeline.specs.Listed.{AreListed, AreLinesOf}
use Rattle.rept_timeline.specs.Strips.{AreStripsOf}
use Rattle.rept_extents.specs.Extents.{AreExtents}
use Rattle.rept_moments.specs.Courses.{IsCourseOf}
use Rattle.rept_extents.specs.Timelines.{time_of}
use Rattle.rept_timeline.proofs.Counting.{few_points}
use Rattle.rept_timeline.proofs.Making.{timeline_in}
use Rattle.rept_timeline.proofs.run_paths.RunPaths.new.Goals as goal

pub new-requires-clause-few : goal.new-requires-clause-few
new-requires-clause-few c = few_points (course_of c.args.run.now) c.requires.small

pub invariant_of-result-clause-listed : goal.invariant_of-result-clause-listed
invariant_of-result-clause-listed c = ∣ subst (λ (d : NumberedRun). AreListed d c.in_ok-storing.storing) c.course.ensures.value c.in_ok-storing.ensures.listed ∣₁

pub invariant_of-result-clause-lawful : goal.invariant_of-result-clause-lawful
invariant_of-result-clause-lawful c = ∣ timeline_in (course_of c.args.run.now) c.in_ok-ways.ways c.requires.sound c.requires.small c.in_ok-ways.ensures.ok ∣₁

pub invariant_of-result-clause-lined : goal.invariant_of-result-clause-lined
invariant_of-result-clause-lined c = ∣ c.in_ok-lines.ensures.lines ∣₁

pub invariant_of-result-clause-stripped : goal.invariant_of-result-clause-stripped
invariant_of-result-clause-stripped c = ∣ subst (λ (d : NumberedRun). AreStripsOf d c.in_ok-strips.strips) c.course-2.ensures.value c.in_ok-strips.ensures.strips ∣₁

pub strips_of-requires-clause-listed : goal.strips_of-requires-clause-listed
strips_of-requires-clause-listed c = subst (λ (d : NumberedRun). AreListed d c.in_ok-storing.storing) (c.course.ensures.value ∙ sym c.course-2.ensures.value) c.in_ok-storing.ensures.listed

pub strips_of-requires-clause-lined : goal.strips_of-requires-clause-lined
strips_of-requires-clause-lined c = subst (λ (d : NumberedRun). AreLinesOf (time_of d).moments c.in_ok-lines.lines) (sym c.course-2.ensures.value) c.in_ok-lines.ensures.lines

pub extents_of-requires-clause-course : goal.extents_of-requires-clause-course
extents_of-requires-clause-course c = subst (λ (d : NumberedRun). IsCourseOf (course_of c.args.run.now) d) (sym c.course-3.ensures.value) c.in_ok-ways.ensures.course

pub invariant_of-result-clause-extended : goal.invariant_of-result-clause-extended
invariant_of-result-clause-extended c = ∣ subst (λ (d : NumberedRun). AreExtents (time_of d) c.in_ok-extents.extents) c.course-3.ensures.value c.in_ok-extents.ensures.extents ∣₁

pub invariant_of-result-clause-tabled : goal.invariant_of-result-clause-tabled
invariant_of-result-clause-tabled c = ∣ c.in_ok-tables.ensures.tables ∣₁
