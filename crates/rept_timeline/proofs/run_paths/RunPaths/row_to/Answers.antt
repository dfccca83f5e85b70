use Rattle.std.proofs.Common.{sym, subst}
use Rattle.rept_span.specs.Ranges.{AreLegs}
use Rattle.rept_moments.specs.declared.course.NumberedRun.{NumberedRun}
use Rattle.rept_extents.specs.Timelines.{time_of}
use Rattle.rept_timeline.specs.Lawful.{is_timeline}
use Rattle.rept_timeline.proofs.run_paths.RunPaths.row_to.Goals as goal

pub row_to-requires : goal.row_to-requires
row_to-requires c = subst (λ (d : NumberedRun). AreLegs (time_of d).legs) (sym c.course.ensures.value) (is_timeline (time_of c.args.self.now.ways) c.args.self.now.lawful).legs
