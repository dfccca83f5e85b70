use Rattle.std.proofs.Common.{sym, subst}
use Rattle.rept_report.specs.Timeline.{IsTimeline}
use Rattle.rept_moments.specs.declared.course.NumberedRun.{NumberedRun}
use Rattle.rept_extents.specs.Timelines.{time_of}
use Rattle.rept_timeline.specs.Lawful.{is_timeline}
use Rattle.rept_extents.specs.Extents.{AreExtents}
use Rattle.rept_timeline.proofs.run_paths.RunPaths.extent.Goals as goal

pub of-requires-clause-extents : goal.of-requires-clause-extents
of-requires-clause-extents c = subst (λ (d : NumberedRun). ∥ AreExtents (time_of d) c.args.self.now.extents ∥₁) (sym c.course.ensures.value) c.args.self.now.extended

pub of-requires-clause-laws : goal.of-requires-clause-laws
of-requires-clause-laws c = subst (λ (d : NumberedRun). IsTimeline (time_of d)) (sym c.course.ensures.value) (is_timeline (time_of c.args.self.now.ways) c.args.self.now.lawful)
