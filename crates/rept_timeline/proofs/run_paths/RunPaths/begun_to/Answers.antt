use Rattle.std.proofs.Common.{◌<◌, ℕ, length, sym, subst, ◌∙◌}
use Rattle.rept_moments.specs.declared.course.NumberedRun.{NumberedRun}
use Rattle.rept_report.specs.Timeline.{IsGreatestTo}
use Rattle.rept_report.proofs.Begun.{begun_alone}
use Rattle.rept_extents.specs.Timelines.{time_of, IsBegunTo}
use Rattle.rept_timeline.proofs.run_paths.RunPaths.begun_to.Goals as goal

pub returns-in-One : goal.returns-in-One
returns-in-One c =
    let low : IsGreatestTo (λ (i : ℕ). (i < length c.in-One.steps.now) × (i < c.args.number)) c.args.most c.greatest_below.result = subst (λ (n : ℕ). IsGreatestTo (λ (i : ℕ). (i < n) × (i < c.args.number)) c.args.most c.greatest_below.result) c.len.ensures.value c.greatest_below.ensures in
    subst (λ (d : NumberedRun). IsBegunTo (time_of d) c.args.number c.args.most c.greatest_below.result) (sym (sym c.course.ensures.value ∙ c.in-One.is)) (begun_alone c.in-One.steps.now c.args.number c.args.most c.greatest_below.result low)
