use Rattle.std.proofs.Common.{◌≤◌, None, sym, subst, refl, ◌∙◌}
use Rattle.rept_moments.specs.declared.course.NumberedRun.{NumberedRun}
use Rattle.rept_report.specs.Timeline.{IsStrip}
use Rattle.rept_extents.specs.Timelines.{time_of}
use Rattle.rept_timeline.proofs.Making.{many_strips, strip_alone}
use Rattle.rept_timeline.proofs.Stripping.{strip_inside, strip_read}
use Rattle.rept_timeline.proofs.run_paths.RunPaths.strip_of.Goals as goal

pub strip-requires : goal.strip-requires
strip-requires c =
    let is = sym c.course.ensures.value ∙ c.in-Many.is in
    strip_inside c.in-Many._many c.args.self.now.strips c.args.number (many_strips c.args.self.now.ways c.in-Many._many c.args.self.now.strips is c.args.self.now.stripped) (subst (λ (d : NumberedRun). c.args.number ≤ (time_of d).moments.end) is c.requires)

pub returns-in-Many : goal.returns-in-Many
returns-in-Many c =
    let is = sym c.course.ensures.value ∙ c.in-Many.is in
    subst (λ (d : NumberedRun). IsStrip (time_of d) c.args.number c.strip.result) (sym is) (strip_read c.in-Many._many c.args.self.now.strips c.args.number c.strip.result (many_strips c.args.self.now.ways c.in-Many._many c.args.self.now.strips is c.args.self.now.stripped) c.strip.ensures)

pub returns-in-One : goal.returns-in-One
returns-in-One c =
    let is = sym c.course.ensures.value ∙ c.in-One.is in
    subst (λ (d : NumberedRun). IsStrip (time_of d) c.args.number (record { first = 0; last = c.len.result; pause = None })) (sym is) (strip_alone c.in-One.steps.now c.args.number (record { first = 0; last = c.len.result; pause = None }) refl c.len.ensures.value refl (subst (λ (d : NumberedRun). c.args.number ≤ (time_of d).moments.end) is c.requires))
